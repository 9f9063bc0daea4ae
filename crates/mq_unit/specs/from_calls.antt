-- Definitions of mq_calls, passed on to the crates above.
pub use Rattle.mq_record.specs.from_calls.Words as Words
pub use Rattle.mq_record.specs.from_calls.{Batch, ReceiverSide, Seizure, SenderSide}
