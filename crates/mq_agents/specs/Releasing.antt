-- Rows of a batch that are free again.
use Rattle.std.specs.Prelude.{ℕ, List, false}
use Rattle.mq_message.specs.declared.place.Holder.TheVariants as holders
use Rattle.mq_calls.specs.declared.deltas.Did.TheVariants as did
use Rattle.mq_calls.specs.Words.{Ident, HeldBy, released_in}
use Rattle.mq_calls.specs.declared.deltas.Did.{Did}
use Rattle.mq_place.specs.States.{on_queues}
use Rattle.mq_core.specs.Views.{PartsValue}
use Rattle.mq_core.specs.Placing.{with_states}
use Rattle.mq_agents.specs.Removing.{without_one}

-- a row is free again
abbrev pub released_did : List ℕ → Ident → Did
released_did queue ident = did.Released queue ident

-- the rows that the batch of a channel holds are free again, and it is no more
abbrev pub batch_freed : List ℕ → PartsValue → PartsValue
batch_freed channel x = record (with_states (on_queues (released_in (HeldBy (holders.Batch channel)) false) x.queues.states) x) { ends = without_one channel x.ends }
