-- Definitions of mq_history, passed on to the crates above.
pub use Rattle.mq_law_rows.specs.from_history.ReplyVariants as ReplyVariants
pub use Rattle.mq_law_rows.specs.from_history.{CableLine, ManagerPlaces, Scenario}
