-- Trigger turns behind an event.
use Rattle.std.specs.Prelude.{◌≡◌, ◌≤◌, ◌⊎◌, Bool, true, false, List, ◌∷◌, Result, Ok, Err}
use Rattle.std.specs.List.{AllByRecursion}
use Rattle.mq_base.specs.declared.want.NoMemory.{NoMemory}
use Rattle.mq_history.specs.declared.calls.Call.TheVariants as calls
use Rattle.mq_spec_node.specs.Terms.{Actor, Call, Entry}
use Rattle.mq_spec_node.specs.Words.{Grows, is_spent}
use Rattle.mq_events.specs.States.{NodeState, IsServed, value_of}
use Rattle.mq_events.specs.Events.{Stays}
use Rattle.mq_acts.specs.Asks.{MayWait}

-- trigger turns alone
abbrev pub AreTurns : List Entry → Type 0
AreTurns es = AllByRecursion (λ (e : Entry). e.call ≡ calls.Trigger) es

-- Some trigger turns were made, and nothing else.
pub record Serves (old new : NodeState) : Type 0 where
  pub turns : List Entry
  pub are : AreTurns turns
  pub grows : Grows (value_of old) turns (value_of new)
  pub marks : new.marks ≡ old.marks
  pub faults : old.manager.faults ≤ new.manager.faults

-- no trigger is due, or the node has made all its events
abbrev pub IsDone : NodeState → Type 0
IsDone s = IsServed s ⊎ (is_spent (value_of s) ≡ true)

-- One event, of this actor's call, and trigger turns behind it.
pub record Plays (who : Actor) (what : Call) (old new : NodeState) : Type 0 where
  pub entry : Entry
  pub behind : List Entry
  pub actor : entry.actor ≡ who
  pub call : entry.call ≡ what
  pub turns : AreTurns behind
  pub grows : Grows (value_of old) (entry ∷ behind) (value_of new)
  pub marks : new.marks ≡ old.marks
  pub faults : old.manager.faults ≤ new.manager.faults

-- The event, with all trigger turns that are due behind it; a get that may wait still; where there was no memory, nothing, or the
-- event with some of the turns behind it.
abbrev pub Played : Actor → Call → NodeState → Result Bool NoMemory → NodeState → Type 0
Played who what old (Ok true) new = Plays who what old new × IsDone new
Played who what old (Ok false) new = MayWait who what old new
Played who what old (Err e) new = Stays old new ⊎ Plays who what old new
