-- Definitions of mq_calls, passed on to the crates above.
pub use Rattle.mq_calls.specs.Changes as Changes
pub use Rattle.mq_calls.specs.Images as Images
pub use Rattle.mq_calls.specs.Reads as Reads
pub use Rattle.mq_calls.specs.State as State
pub use Rattle.mq_calls.specs.Words as Words
pub use Rattle.mq_calls.specs.declared.deltas.Did.{Did}
pub use Rattle.mq_calls.specs.declared.image.Image.{Image}
pub use Rattle.mq_calls.specs.declared.image.Shelf.{Shelf}
pub use Rattle.mq_calls.specs.declared.records.Add.{Add}
pub use Rattle.mq_calls.specs.declared.records.LogRecord.TheVariants as LogRecordVariants
pub use Rattle.mq_calls.specs.declared.records.LogRecord.{LogRecord}
pub use Rattle.mq_calls.specs.declared.records.Remove.{Remove}
pub use Rattle.mq_calls.specs.declared.state.Batch.{Batch}
pub use Rattle.mq_calls.specs.declared.state.Item.TheVariants as ItemVariants
pub use Rattle.mq_calls.specs.declared.state.Item.{Item}
pub use Rattle.mq_calls.specs.declared.state.ReceiverSide.{ReceiverSide}
pub use Rattle.mq_calls.specs.declared.state.Seizure.{Seizure}
pub use Rattle.mq_calls.specs.declared.state.SenderSide.{SenderSide}
