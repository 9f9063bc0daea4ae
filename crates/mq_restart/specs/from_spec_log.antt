-- Definitions of mq_spec_log, passed on to the crates above.
pub use Rattle.mq_spec_log.specs.Applies as Applies
pub use Rattle.mq_spec_log.specs.Bodies as Bodies
pub use Rattle.mq_spec_log.specs.Records as Records
