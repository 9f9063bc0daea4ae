-- Definitions of mq_manager, passed on to the crates above.
pub use Rattle.mq_events.specs.from_manager.Facts as Facts
pub use Rattle.mq_events.specs.from_manager.Kept as Kept
