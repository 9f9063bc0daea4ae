-- Definitions of mq_calls, passed on to the crates above.
pub use Rattle.mq_record.specs.from_calls.{LogRecord}
