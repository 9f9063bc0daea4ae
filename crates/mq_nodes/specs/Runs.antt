-- The steps of a run, one after the other.
use Rattle.std.specs.Prelude.{◌≡◌, ℕ, Bool, false, [], Result, Ok, Err}
use Rattle.mq_spec_network.specs.Tasks.{restarts_from}
use Rattle.mq_spec_network.specs.Lawful.{Stands}
use Rattle.mq_nodes.specs.declared.nodes.Stop.{Stop}
use Rattle.mq_nodes.specs.Course.{Course, Ready, Rests}
use Rattle.mq_nodes.specs.Told.{Ran}

-- nothing is noted yet
abbrev pub Unmarked : Course → Type 0
Unmarked c = (m : ℕ) → c.marks m ≡ []

-- the answer of a step that is never idle
abbrev pub never_idle : Result (Unit {0}) Stop → Result Bool Stop
never_idle (Ok done) = Ok false
never_idle (Err stop) = Err stop

-- all steps are whole, and noted; the last restarts are left
pub record AllWhole (c d : Course) : Type 0 where
  pub stands : Stands c.net c.net.scenario.steps [] d.marks d.net (restarts_from 0 d.net.scenario.managers)
  pub ready : Ready d.net
  pub rests : Rests d

abbrev pub StepsTold : Result (Unit {0}) Stop → Course → Course → Type 0
StepsTold (Ok done) c d = AllWhole c d
StepsTold (Err stop) c d = Ran {T = Unit {0}} (Err stop) c d
