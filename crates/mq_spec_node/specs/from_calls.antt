-- Definitions of mq_calls, passed on to the crates above.
pub use Rattle.mq_history.specs.from_calls.AnswerVariants as AnswerVariants
pub use Rattle.mq_history.specs.from_calls.Changes as Changes
pub use Rattle.mq_history.specs.from_calls.ChoiceVariants as ChoiceVariants
pub use Rattle.mq_history.specs.from_calls.DidVariants as DidVariants
pub use Rattle.mq_history.specs.from_calls.InputVariants as InputVariants
pub use Rattle.mq_history.specs.from_calls.ItemVariants as ItemVariants
pub use Rattle.mq_history.specs.from_calls.NoteVariants as NoteVariants
pub use Rattle.mq_history.specs.from_calls.Reads as Reads
pub use Rattle.mq_history.specs.from_calls.Recovery as Recovery
pub use Rattle.mq_history.specs.from_calls.RestartFaultVariants as RestartFaultVariants
pub use Rattle.mq_history.specs.from_calls.ReturnVariants as ReturnVariants
pub use Rattle.mq_history.specs.from_calls.State as State
pub use Rattle.mq_history.specs.from_calls.TakeVariants as TakeVariants
pub use Rattle.mq_history.specs.from_calls.WhyVariants as WhyVariants
pub use Rattle.mq_history.specs.from_calls.{Appl, Connection, Did, Get, Got, Handle, Hconn, Hobj, Item, Open, Return, SenderSide, Shelf, Why}
