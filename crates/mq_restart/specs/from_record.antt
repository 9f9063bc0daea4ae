-- Definitions of mq_record, passed on to the crates above.
pub use Rattle.mq_record.specs.Records as Records
