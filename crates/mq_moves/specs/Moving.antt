-- A row that moves from one queue to another.
use Rattle.std.specs.Prelude.{ℕ, ◌+◌, ◌-◌, Bool, List, [], ◌∷◌, None, Result, IsSome, length}
use Rattle.mq_calls.specs.Words.{Dest, Message, MeetsOrWants, Plain, Reason, Step, Do, local_of}
use Rattle.mq_calls.specs.declared.agents.PlaceFault.{PlaceFault}
use Rattle.mq_spec_manager.specs.Agents.{HasFreeRow, IsUp, move_part}
use Rattle.mq_agents.specs.from_place.States.{change_state, unpended}
use Rattle.mq_agents.specs.from_core.StoppedWriteVariants as writes
use Rattle.mq_agents.specs.from_core.Counting.{CanCount}
use Rattle.mq_agents.specs.from_core.Values.{CoreValue, WritesLog, manager_of}
use Rattle.mq_agents.specs.from_core.Views.{PartsValue}
use Rattle.mq_agents.specs.from_core.Placing.{with_states}
use Rattle.mq_agents.specs.from_core.Forced.{downed}
use Rattle.mq_agents.specs.Ends.{by_place}

-- the move of a message for which no refusal applies
abbrev pub moved_step : List ℕ → Dest → Bool → List ℕ → Message → Step Reason (Unit {0})
moved_step from target bare to m = Do tt (move_part from target bare (record { queue = to; message = m; dead = None }) ∷ [])

-- a manager is up and counts on, and has a free row of that ident and the queue to which its message goes
pub record CanMoveTo (from to : List ℕ) (m : Message) (p : Plain) : Type 0 where
  pub up : IsUp p
  pub low : CanCount p
  pub there : IsSome (local_of to p.definitions)
  pub row : HasFreeRow from m.ident p

-- a call makes that move: it comes to its step, and so does what it writes
pub record MakesMove (from : List ℕ) (target : Dest) (bare : Bool) (to : List ℕ) (m : Message) (old : CoreValue) (result : Result (Unit {0}) PlaceFault) (new : CoreValue) : Type 0 where
  pub meets : MeetsOrWants (manager_of old) (moved_step from target bare to m) (by_place result) (manager_of new)
  pub told : WritesLog old (moved_step from target bare to m) (by_place result) new

-- a write that was stopped, of a move whose message waited
abbrev pub downed_move : List ℕ → Dest → Bool → List ℕ → Message → PartsValue → PartsValue
downed_move from target bare to m x = downed (writes.Moved from target bare to m) (with_states (change_state to unpended x.queues.states) x)
