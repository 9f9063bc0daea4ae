-- Definitions of mq_record, passed on to the crates above.
pub use Rattle.mq_record.specs.Reading as Reading
pub use Rattle.mq_record.specs.Records as Records
pub use Rattle.mq_record.specs.declared.record.Operation.TheVariants as OperationVariants
pub use Rattle.mq_record.specs.declared.record.Operation.{Operation}
pub use Rattle.mq_record.specs.declared.record.WrittenRecord.TheVariants as WrittenRecordVariants
pub use Rattle.mq_record.specs.declared.record.WrittenRecord.{WrittenRecord}
