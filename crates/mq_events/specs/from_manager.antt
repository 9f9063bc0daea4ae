-- Definitions of mq_manager, passed on to the crates above.
pub use Rattle.mq_manager.specs.Facts as Facts
pub use Rattle.mq_manager.specs.Kept as Kept
