-- Definitions of mq_record, passed on to the crates above.
pub use Rattle.mq_spec_log.specs.from_record.OperationVariants as OperationVariants
pub use Rattle.mq_spec_log.specs.from_record.Reading as Reading
pub use Rattle.mq_spec_log.specs.from_record.Records as Records
pub use Rattle.mq_spec_log.specs.from_record.WrittenRecordVariants as WrittenRecordVariants
pub use Rattle.mq_spec_log.specs.from_record.{Operation, WrittenRecord}
