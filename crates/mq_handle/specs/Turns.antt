-- A handler's turn as an event of its node.
use Rattle.std.specs.Prelude.{◌≡◌, ℕ, ◌==◌, Bool, true, false, Option, Some, None, Result, Ok, Err, count_by, slice_get}
use Rattle.mq_base.specs.declared.want.NoMemory.{NoMemory as Want}
use Rattle.mq_frame.specs.declared.frame.Seen.TheVariants as items
use Rattle.mq_history.specs.declared.calls.Actor.TheVariants as actors
use Rattle.mq_history.specs.declared.calls.Call.TheVariants as calls
use Rattle.mq_spec_node.specs.Terms.{Entry}
use Rattle.mq_spec_node.specs.Words.{Deed, Handler, Node, deed_of, is_none}
use Rattle.mq_spec_manager.specs.Agents.{CanMove, IsUp}
use Rattle.mq_events.specs.States.{NodeState, node_in}
use Rattle.mq_events.specs.Events.{Adds, Stays}
use Rattle.mq_handle.specs.declared.finding.DueLetter.{DueLetter}
use Rattle.mq_handle.specs.declared.turning.DueTurn.{DueTurn}
use Rattle.mq_handle.specs.Treatments.{deed_by, treatment_of}

abbrev pub is_number : ℕ → Handler → Bool
is_number number h = h.number == number

-- the turn of the handler of a number; none where it is idle
abbrev pub turn_of : ℕ → Node → Option Deed
turn_of number n = deed_of 0 (actors.Handler number) calls.Turn items.Nothing n

-- It was tried, in one event; it is idle, and nothing has changed; there was no memory, and nothing has changed.
pub record Tries (number : ℕ) (old new : NodeState) : Type 0 where
  pub entry : Entry
  pub adds : Adds (actors.Handler number) calls.Turn entry old new
  pub deed : is_none (turn_of number (node_in old)) ≡ false

pub record Idles (number : ℕ) (old new : NodeState) : Type 0 where
  pub same : new ≡ old
  pub deed : turn_of number (node_in old) ≡ None

abbrev pub Turns : ℕ → NodeState → Result Bool Want → NodeState → Type 0
Turns number old (Ok true) new = Tries number old new
Turns number old (Ok false) new = Idles number old new
Turns number old (Err e) new = Stays old new

-- the dead letter that its handler, which stands at this place, takes, and what the turn is
pub record IsDue (l : DueLetter) (at number : ℕ) (n : Node) : Type 0 where
  pub handler : Handler
  pub there : slice_get n.own.handlers at ≡ Some handler
  pub up : IsUp n.manager
  pub can : (bare : Bool) → CanMove l.queue l.ident bare n.manager
  pub deed : turn_of number n ≡ Some (deed_by at (treatment_of l handler n.manager) n.own)

-- what is found: none where it is idle
pub record FindsOne (d : DueTurn) (number : ℕ) (n : Node) : Type 0 where
  pub deed : is_none (turn_of number n) ≡ false
  pub due : count_by (is_number number) n.own.handlers ≡ 1 → IsDue d.letter d.at number n

abbrev pub Finds : ℕ → Node → Option DueTurn → Type 0
Finds number n None = turn_of number n ≡ None
Finds number n (Some d) = FindsOne d number n
