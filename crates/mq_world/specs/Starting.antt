-- A node of which nothing has happened, in a network that starts.
use Rattle.std.specs.Prelude.{◌≡◌, ◌+◌, ◌≤◌, ℕ, List, [], None, Some, slice_get, vec_len, vec_capacity}
use Rattle.std.proofs.Common.{Global, Vec}
use Rattle.mq_history.specs.declared.history.History.{History}
use Rattle.mq_history.specs.declared.scenario.Scenario.{Scenario}
use Rattle.mq_spec_node.specs.Words.{Own, Surroundings, begun_anew}
use Rattle.mq_core.specs.Values.{CoreValue}
use Rattle.mq_watch.specs.from_events.States.{NodeState, IsServed, Spare}
use Rattle.mq_watch.specs.from_events.Events.{MayAct}
use Rattle.mq_history.specs.declared.history.Mark.{Mark}
use Rattle.mq_spec_node.specs.Words.{fresh}
use Rattle.mq_progress.specs.Course as progress
use Rattle.mq_nodes.specs.Course.{Ready, Rests}
use Rattle.mq_nodes.specs.Runs.{Unmarked}
use Rattle.mq_world.specs.Worlds.{IsNodeAt, NetState, course_in, histories_in}
use Rattle.mq_world_begin.specs.Rested.{RestState, as_given}

-- what a manager is given, as its history and its own say
abbrev pub around : ℕ → Own → History → Surroundings
around log_max own h = record { given = record { number = h.number; name = h.name; log_max = log_max }; own = own }

-- what is its own, as the scenario gives it and as it begins
abbrev pub begun_state : ℕ → CoreValue → (first own : Own) → History → ℕ → ℕ → Spare → NodeState
begun_state log_max v first own h room marks spare = record { given = around log_max first h; history = h; manager = v; own = own; stamp = 0; spare = spare; room = room; marks = marks }

-- the channels' ends begin with what is hardened
abbrev pub own_begun : CoreValue → Own → Own
own_begun v own = (begun_anew v.plain (as_given own)).own

-- Nothing was done yet at any manager.
pub record IsFresh (w : RestState) : Type 0 where
  pub undone : (m : ℕ) (h : History) → slice_get w.histories m ≡ Some h → h.entries ≡ []
  pub unmarked : (m : ℕ) (h : History) → slice_get w.histories m ≡ Some h → h.marks ≡ []

-- a node of its manager, with its history, which may do its first event
pub record StartsAt (s : Scenario) (hs : List History) (m : ℕ) (n : NodeState) : Type 0 where
  pub at : IsNodeAt s m n
  pub served : IsServed n
  pub may : MayAct n
  pub history : slice_get hs m ≡ Some n.history
  pub undone : n.history.entries ≡ []
  pub unmarked : n.history.marks ≡ []

-- room for so many marks
abbrev pub IsRoom : ℕ → Vec Mark Global → Type 0
IsRoom steps r = (r.items ≡ []) × (steps + vec_len r ≤ vec_capacity r)

-- a script that has done nothing
abbrev pub begun_script : progress.Course
begun_script = record { memory = fresh; room = 0; done = 0; until = None }

-- A network that starts from managers at rest: it has their histories, and may do its first event; no get waits, and no step has ended.
pub record Starts (r : RestState) (w : NetState) : Type 0 where
  pub scenario : w.scenario ≡ r.scenario
  pub histories : histories_in w ≡ r.histories
  pub ready : Ready (course_in w).net
  pub rests : Rests (course_in w)
  pub unmarked : Unmarked (course_in w)
