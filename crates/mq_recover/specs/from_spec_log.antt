-- Definitions of mq_spec_log, passed on to the crates above.
pub use Rattle.mq_recover_read.specs.from_spec_log.Applies as Applies
pub use Rattle.mq_recover_read.specs.from_spec_log.Bodies as Bodies
