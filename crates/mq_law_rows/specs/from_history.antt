-- Definitions of mq_history, passed on to the crates above.
pub use Rattle.mq_spec_network.specs.from_history.ReplyVariants as ReplyVariants
pub use Rattle.mq_spec_network.specs.from_history.{Apart, CableLine, History, ManagerPlaces, Scenario}
