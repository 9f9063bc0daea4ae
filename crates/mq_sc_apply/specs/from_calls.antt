-- Definitions of mq_calls, passed on to the crates above.
pub use Rattle.mq_calls.specs.Meeting as Meeting
pub use Rattle.mq_calls.specs.Recovery as Recovery
pub use Rattle.mq_calls.specs.State as State
pub use Rattle.mq_calls.specs.Steps as Steps
pub use Rattle.mq_calls.specs.Words as Words
pub use Rattle.mq_calls.specs.declared.agents.Note.TheVariants as NoteVariants
pub use Rattle.mq_calls.specs.declared.agents.Note.{Note}
pub use Rattle.mq_calls.specs.declared.agents.PrepareFault.TheVariants as PrepareFaultVariants
pub use Rattle.mq_calls.specs.declared.agents.PrepareFault.{PrepareFault}
pub use Rattle.mq_calls.specs.declared.agents.SeizeFault.TheVariants as SeizeFaultVariants
pub use Rattle.mq_calls.specs.declared.agents.SeizeFault.{SeizeFault}
pub use Rattle.mq_calls.specs.declared.answers.Answer.TheVariants as AnswerVariants
pub use Rattle.mq_calls.specs.declared.answers.Answer.{Answer}
pub use Rattle.mq_calls.specs.declared.answers.Appl.{Appl}
pub use Rattle.mq_calls.specs.declared.answers.Get.{Get}
pub use Rattle.mq_calls.specs.declared.answers.GetAnswer.TheVariants as GetAnswerVariants
pub use Rattle.mq_calls.specs.declared.answers.GetAnswer.{GetAnswer}
pub use Rattle.mq_calls.specs.declared.answers.Got.{Got}
pub use Rattle.mq_calls.specs.declared.answers.Hconn.{Hconn}
pub use Rattle.mq_calls.specs.declared.answers.Hobj.{Hobj}
pub use Rattle.mq_calls.specs.declared.answers.Input.TheVariants as InputVariants
pub use Rattle.mq_calls.specs.declared.answers.Input.{Input}
pub use Rattle.mq_calls.specs.declared.answers.Open.{Open}
pub use Rattle.mq_calls.specs.declared.answers.Sent.{Sent}
pub use Rattle.mq_calls.specs.declared.answers.Take.TheVariants as TakeVariants
pub use Rattle.mq_calls.specs.declared.answers.Take.{Take}
pub use Rattle.mq_calls.specs.declared.choices.Choice.TheVariants as ChoiceVariants
pub use Rattle.mq_calls.specs.declared.choices.Return.TheVariants as ReturnVariants
pub use Rattle.mq_calls.specs.declared.choices.Return.{Return}
pub use Rattle.mq_calls.specs.declared.commands.Halt.TheVariants as HaltVariants
pub use Rattle.mq_calls.specs.declared.commands.Halt.{Halt}
pub use Rattle.mq_calls.specs.declared.commands.Kept.{Kept}
pub use Rattle.mq_calls.specs.declared.commands.RestartFault.TheVariants as RestartFaultVariants
pub use Rattle.mq_calls.specs.declared.commands.RestartFault.{RestartFault}
pub use Rattle.mq_calls.specs.declared.commands.ScRefusal.TheVariants as ScRefusalVariants
pub use Rattle.mq_calls.specs.declared.commands.ScRefusal.{ScRefusal}
pub use Rattle.mq_calls.specs.declared.commands.Shown.{Shown}
pub use Rattle.mq_calls.specs.declared.deltas.Did.TheVariants as DidVariants
pub use Rattle.mq_calls.specs.declared.deltas.Did.{Did}
pub use Rattle.mq_calls.specs.declared.deltas.Why.TheVariants as WhyVariants
pub use Rattle.mq_calls.specs.declared.deltas.Why.{Why}
pub use Rattle.mq_calls.specs.declared.image.Image.{Image}
pub use Rattle.mq_calls.specs.declared.image.Shelf.{Shelf}
pub use Rattle.mq_calls.specs.declared.records.Add.{Add}
pub use Rattle.mq_calls.specs.declared.records.LogRecord.TheVariants as LogRecordVariants
pub use Rattle.mq_calls.specs.declared.records.LogRecord.{LogRecord}
pub use Rattle.mq_calls.specs.declared.records.Remove.{Remove}
pub use Rattle.mq_calls.specs.declared.state.Batch.{Batch}
pub use Rattle.mq_calls.specs.declared.state.Connection.{Connection}
pub use Rattle.mq_calls.specs.declared.state.Handle.{Handle}
pub use Rattle.mq_calls.specs.declared.state.Item.TheVariants as ItemVariants
pub use Rattle.mq_calls.specs.declared.state.Item.{Item}
pub use Rattle.mq_calls.specs.declared.state.Seizure.{Seizure}
pub use Rattle.mq_calls.specs.declared.state.SenderSide.{SenderSide}
