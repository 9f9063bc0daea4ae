-- Definitions of mq_history, passed on to the crates above.
pub use Rattle.mq_spec_node.specs.from_history.ReplyVariants as ReplyVariants
pub use Rattle.mq_spec_node.specs.from_history.{Apart, CableLine, Entry, History, ManagerPlaces, Scenario}
