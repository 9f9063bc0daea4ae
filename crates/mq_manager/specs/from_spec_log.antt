-- Definitions of mq_spec_log, passed on to the crates above.
pub use Rattle.mq_law_log.specs.from_spec_log.Applies as Applies
