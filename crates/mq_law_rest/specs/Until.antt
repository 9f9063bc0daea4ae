-- A run up to the end of one of its steps.
use Rattle.std.specs.Prelude.{◌≡◌, ℕ, false, suc, List, [], ◌∷◌, ◌++◌, Some, length, slice_get}
use Rattle.mq_history.specs.declared.calls.Entry.{Entry}
use Rattle.mq_history.specs.declared.history.History.{History}
use Rattle.mq_history.specs.declared.history.Mark.{Mark}
use Rattle.mq_history.specs.declared.scenario.Scenario.{Scenario}
use Rattle.mq_history.specs.declared.scenario.Step.{Step}
use Rattle.mq_law_ran.specs.from_course.Courses.{net_of}
use Rattle.mq_nodes.specs.Carried.{until}
use Rattle.mq_spec_network.specs.Turns.{Network, is_idle}
use Rattle.mq_spec_network.specs.Tasks.Slot.{Sends}
use Rattle.mq_spec_network.specs.Tasks.Task.{Pump}
use Rattle.mq_spec_network.specs.Steps.{Goes}
use Rattle.mq_spec_network.specs.Story.{entries_at}
use Rattle.mq_spec_network.specs.Lawful.{Went, network_begun}

-- the network when so many steps were done
abbrev pub net_until : Scenario → List History → ℕ → Network
net_until s hs i = net_of s (until i hs)

-- A network of a run at which so many steps were done, and no more.
pub record IsPlace (s : Scenario) (hs : List History) (i : ℕ) (w : Network) : Type 0 where
  pub front : List Step
  pub rest : List Step
  pub parts : s.steps ≡ front ++ rest
  pub many : length front ≡ i
  pub marks : ℕ → List Mark
  pub went : Went (network_begun s hs) front marks w
  pub later : ℕ → List Mark
  pub noted : (m : ℕ) (h : History) → slice_get hs m ≡ Some h → h.marks ≡ marks m ++ later m
  pub more : ℕ → List Entry
  pub has : (m : ℕ) → entries_at hs m ≡ w.done m ++ more m

-- A PUMP of a run that was done whole, with what the marks of the histories say of it.
pub record IsStep (s : Scenario) (hs : List History) (i n : ℕ) : Type 0 where
  pub before : Network
  pub after : Network
  pub place : IsPlace s hs i before
  pub next : IsPlace s hs (suc i) after
  pub goes : Goes before (Pump n Sends 0 false ∷ []) after []
  pub idle : (m : ℕ) (h : History) (k : Mark) → slice_get hs m ≡ Some h → slice_get h.marks i ≡ Some k → k.idle ≡ is_idle after
