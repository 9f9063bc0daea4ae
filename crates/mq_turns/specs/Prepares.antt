-- What a batch's preparing comes to.
use Rattle.std.specs.Prelude.{◌≡◌, ◌≤◌, ℕ, false, AllPairs, List, ◌++◌, Option, Some, None, Result, Ok, Err}
use Rattle.mq_message.specs.declared.message.Ident.{Ident}
use Rattle.mq_calls.specs.declared.agents.PrepareFault.TheVariants as prepare_faults
use Rattle.mq_calls.specs.declared.choices.Choice.{Choice}
use Rattle.mq_calls.specs.declared.commands.Halt.{Halt}
use Rattle.mq_calls.specs.declared.commands.Halt.TheVariants as halts
use Rattle.mq_calls.specs.declared.state.Batch.{Batch}
use Rattle.mq_sender.specs.After.{number_sent, sender_after}
use Rattle.mq_sender.specs.declared.turns.SenderDoes.TheVariants as lines
use Rattle.mq_sender.specs.declared.turns.SenderOut.{SenderOut}
use Rattle.mq_sender.specs.declared.turns.SenderOut.TheVariants as outs
use Rattle.mq_calls.specs.Recovery.{IsNumbered}
use Rattle.mq_calls.specs.Words.{batch_of, same_ident, sender_data, sender_or}
use Rattle.mq_spec_manager.specs.Agents.{leave, prepare, release_batch}
use Rattle.mq_base.specs.declared.want.NoMemory.{NoMemory as Want}
use Rattle.mq_spec_node.specs.Terms.{Did, Part, Plain, PrepareFault, Step, Refuse, Do}
use Rattle.mq_spec_node.specs.Words.{SenderEnd, parts_of}
use Rattle.mq_core.specs.Values.{CoreValue}
use Rattle.mq_turn_parts.specs.from_events.{Told}
use Rattle.mq_turns.specs.declared.preparing.Tried.{Tried}
use Rattle.mq_turns.specs.declared.preparing.Unprepared.{Unprepared}
use Rattle.mq_turns.specs.declared.preparing.Unprepared.TheVariants as causes
use Rattle.mq_turn_parts.specs.Turns.{IsAsWas, Made}

-- the batch fits in the log, or does not
abbrev pub IsDone : Step PrepareFault (Unit {0}) → Type 0
IsDone (Refuse fault) = ⊥
IsDone (Do reply parts) = Unit {0}

abbrev pub IsRefused : Step PrepareFault (Unit {0}) → Type 0
IsRefused (Refuse fault) = Unit {0}
IsRefused (Do reply parts) = ⊥

-- it was done, or its write was stopped; the log has no room; or there was no memory
abbrev pub Prepared : Step PrepareFault (Unit {0}) → Result (Option Told) Want → CoreValue → CoreValue → Type 0
Prepared step (Ok (Some t)) old new = IsDone step × Made (parts_of step) t.choice t.delta old new
Prepared step (Ok None) old new = IsRefused step × IsAsWas old new
Prepared step (Err e) old new = IsAsWas old new

-- what is done where the log has no room: the batch is released, and the queue is left
abbrev pub full_parts : List ℕ → Plain → List Part
full_parts channel p = parts_of (release_batch channel p) ++ parts_of (leave channel p)

-- what came of it, as the end is told
abbrev pub Tries : SenderOut → List ℕ → Step PrepareFault (Unit {0}) → Choice → List Did → CoreValue → CoreValue → Type 0
Tries outs.Done channel step choice delta old new = IsDone step × Made (parts_of step) choice delta old new
Tries outs.Full channel step choice delta old new = ⊥
Tries outs.NoRoom channel step choice delta old new = IsRefused step × Made (full_parts channel old.plain) choice delta old new

abbrev pub TriesOr : List ℕ → Step PrepareFault (Unit {0}) → Result Tried Want → CoreValue → CoreValue → Type 0
TriesOr channel step (Ok t) old new = Tries t.out channel step t.told.choice t.told.delta old new
TriesOr channel step (Err e) old new = IsAsWas old new

-- of a sender's end: what it prepares, and the end after it
abbrev pub step_of : SenderEnd → Plain → Step PrepareFault (Unit {0})
step_of e p = prepare e.channel (number_sent e.machine.state e.machine.kept.last) p

abbrev pub tried_end : SenderEnd → SenderOut → SenderEnd
tried_end e out = record e { machine = sender_after e.machine lines.Prepare out }

-- what the code asks of a batch beside the manager's facts
pub record MayPrepare (channel : List ℕ) (p : Plain) : Type 0 where
  pub batch : Batch
  pub own : batch_of channel p.channels.batches ≡ Some batch
  pub unit : IsNumbered batch.unit
  pub session : batch.unit.session ≤ (sender_or (sender_data channel p)).session
  pub apart : AllPairs (λ (x y : Ident). same_ident x y ≡ false) batch.idents

-- why it wasn't prepared, as a halt
abbrev pub halt_of : Unprepared → Halt PrepareFault
halt_of causes.NoRoom = halts.Refused prepare_faults.NoRoom
halt_of causes.NoMemory = halts.NoMemory
halt_of (causes.Stopped by) = halts.Stopped by
