-- Definitions of mq_law_manager, passed on to the crates above.
pub use Rattle.mq_law_log.specs.from_law_manager.Facts as Facts
