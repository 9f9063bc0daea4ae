-- What the parts of a turn's deed came to at the manager, the entry that tells it, and what a turn or a timeout comes to.
use Rattle.std.specs.Prelude.{◌≡◌, ◌+◌, ◌≤◌, ℕ, Bool, true, false, List, [], Option, Some, None, Result, Ok, Err}
use Rattle.mq_base.specs.declared.want.NoMemory.{NoMemory as Want}
use Rattle.mq_calls.specs.declared.choices.Choice.{Choice}
use Rattle.mq_calls.specs.declared.choices.Choice.TheVariants.{Runs, NoMemory, Stopped}
use Rattle.mq_history.specs.declared.calls.Actor.TheVariants as actors
use Rattle.mq_history.specs.declared.calls.Call.TheVariants as calls
use Rattle.mq_history.specs.declared.calls.Chance.TheVariants as chances
use Rattle.mq_history.specs.declared.calls.Reply.TheVariants as replies
use Rattle.mq_spec_node.specs.Terms.{Message, Frame, Did, Actor, Call, Entry, Reply, Plain, Part, Possible, do_all, delta_of, delta_before, stopped_at, leave}
use Rattle.mq_frame.specs.declared.frame.Seen.TheVariants as items
use Rattle.mq_sender.specs.States.{awaits}
use Rattle.mq_spec_manager.specs.Agents.{IsUp}
use Rattle.mq_spec_node.specs.Words.{Own, Deed, SenderEnd, deed_of, parts_of, forgotten_rows, sender_end}
use Rattle.mq_core.specs.Values.{CoreValue}
use Rattle.mq_events.specs.declared.outcome.Told.{Told}
use Rattle.mq_events.specs.Disks.{RoseWhere}
use Rattle.mq_events.specs.States.{NodeState, node_in}
use Rattle.mq_events.specs.Events.{Adds, Stays}
use Rattle.mq_turn_parts.specs.declared.telling.Passed.{Passed}
use Rattle.mq_turn_parts.specs.declared.telling.Turn.{Turn}
use Rattle.mq_turn_parts.specs.declared.telling.Turn.TheVariants as turns

-- What is told of parts, and what they leave, under a choice.
abbrev pub delta_by : Choice → List Part → List Did
delta_by Runs parts = delta_of parts
delta_by NoMemory parts = []
delta_by (Stopped by n left) parts = delta_before n parts

abbrev pub plain_by : Choice → List Part → Plain → Plain
plain_by Runs parts p = do_all parts p
plain_by NoMemory parts p = p
plain_by (Stopped by n left) parts p = stopped_at n parts left p

-- all was done, or a write was stopped
abbrev pub IsMade : Choice → Type 0
IsMade Runs = Unit {0}
IsMade NoMemory = ⊥
IsMade (Stopped by n left) = Unit {0}

abbrev pub has_run : Choice → Bool
has_run Runs = true
has_run NoMemory = false
has_run (Stopped by n left) = false

-- The parts came to this.
pub record Made (parts : List Part) (choice : Choice) (delta : List Did) (old new : CoreValue) : Type 0 where
  pub made : IsMade choice
  pub can : Possible choice parts old.plain.log.armed
  pub told : delta ≡ delta_by choice parts
  pub plain : new.plain ≡ plain_by choice parts old.plain
  pub later : old.faults ≤ new.faults
  pub rose : RoseWhere choice old.faults new.faults

-- a manager that is as it was
pub record IsAsWas (old new : CoreValue) : Type 0 where
  pub plain : new.plain ≡ old.plain
  pub later : old.faults ≤ new.faults

abbrev pub MadeOr : List Part → Result Told Want → CoreValue → CoreValue → Type 0
MadeOr parts (Ok t) old new = Made parts t.choice t.delta old new
MadeOr parts (Err e) old new = IsAsWas old new

-- parts without a write, which are done behind others
pub record IsBehind (parts : List Part) (old new : CoreValue) : Type 0 where
  pub plain : new.plain ≡ do_all parts old.plain
  pub later : old.faults ≤ new.faults

abbrev pub leave_unless : (running : Bool) → List ℕ → Plain → List Part
leave_unless true channel p = []
leave_unless false channel p = parts_of (leave channel p)

abbrev pub left_parts : List ℕ → Choice → (running : Bool) → Plain → List Part
left_parts channel Runs running p = leave_unless running channel p
left_parts channel NoMemory running p = []
left_parts channel (Stopped by n left) running p = []

-- The entry of a turn or of a timeout.
abbrev pub reply_for : Choice → Reply
reply_for Runs = replies.Changed
reply_for NoMemory = replies.Changed
reply_for (Stopped by n left) = replies.Stopped by

abbrev pub turn_entry : Actor → Call → Choice → List Did → Passed → List Message → Entry
turn_entry actor call choice delta w received = record {
  stamp = w.stamp;
  actor = actor;
  call = call;
  chance = chances.Call choice;
  reply = reply_for choice;
  effect = record { delta = delta; pushed = w.pushed; extras = w.extras; popped = w.popped; received = received };
}

-- what is offered, and the node's own: nothing of it where a write was stopped
abbrev pub pushed_by : Choice → Option Frame → Option Frame
pushed_by Runs pushed = pushed
pushed_by NoMemory pushed = None
pushed_by (Stopped by n left) pushed = None

abbrev pub own_by : Choice → List Did → (behind before : Own) → Own
own_by Runs delta behind before = forgotten_rows delta behind
own_by NoMemory delta behind before = before
own_by (Stopped by n left) delta behind before = before

-- A timeout, by its deed: an event more, or none, and then nothing has changed.
abbrev pub TimeoutIs : ℕ → Option Deed → NodeState → Turn → NodeState → Type 0
TimeoutIs cable (Some d) old turns.Changed new = (e : Entry) × Adds (actors.Sender cable) calls.Timeout e old new
TimeoutIs cable None old turns.Changed new = ⊥
TimeoutIs cable (Some d) old turns.Still new = ⊥
TimeoutIs cable None old turns.Still new = Stays old new

-- so by what the node's sender end does then
abbrev pub TimesOut : ℕ → NodeState → Turn → NodeState → Type 0
TimesOut cable old turn new = TimeoutIs cable (deed_of (old.stamp + 1) (actors.Sender cable) calls.Timeout items.Nothing (node_in old)) old turn new

-- a sender end that waits for an answer, at a manager that is up
pub record IsDue (cable : ℕ) (e : SenderEnd) (s : NodeState) : Type 0 where
  pub cable_is : e.cable ≡ cable
  pub up : IsUp s.manager.plain
  pub there : sender_end e.cable s.own ≡ Some e
  pub waits : awaits e.machine.state ≡ true

-- none does
abbrev pub IsUndue : ℕ → NodeState → Type 0
IsUndue cable s = deed_of (s.stamp + 1) (actors.Sender cable) calls.Timeout items.Nothing (node_in s) ≡ None

-- what a sender's end does of its own accord
abbrev pub IsSenders : Call → Type 0
IsSenders calls.Turn = Unit {0}
IsSenders calls.Timeout = Unit {0}
IsSenders _ = ⊥
