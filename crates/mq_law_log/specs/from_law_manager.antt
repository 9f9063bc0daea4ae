-- Definitions of mq_law_manager, passed on to the crates above.
pub use Rattle.mq_law_manager.specs.Facts as Facts
pub use Rattle.mq_law_manager.specs.Forced as Forced
