-- What is left to do when the bytes were read, and why nothing is.
use Rattle.std.specs.Prelude.{◌≡◌, ◌≤◌, ℕ, List, [], Option, None, Ok, Err}
use Rattle.mq_history.specs.declared.scenario.Scenario.{Scenario}
use Rattle.mq_scn_text.specs.declared.fault.ScenarioFault.{ScenarioFault}
use Rattle.mq_scn_text.specs.Reading.{scenario_of}
use Rattle.mq_history.specs.Scenarios.{IsScenario}
use Rattle.mq_nodes.specs.Texts.{AllFit}
use Rattle.mq_run.specs.Ends.{RunEnds}
use Rattle.mq_run.specs.Words.{IsTextCommand, Left}
use Rattle.mq_run.specs.declared.status.Status.{Status}
use Rattle.mq_run.specs.declared.status.Status.TheVariants as status
use Rattle.mq_run.specs.declared.reporting.Form.TheVariants as forms
use Rattle.mq_top.specs.declared.top.Purpose.{Purpose}
use Rattle.mq_top.specs.declared.top.Purpose.TheVariants as purposes
use Rattle.mq_top.specs.declared.top.Task.{Task}
use Rattle.mq_top.specs.declared.top.Task.TheVariants as tasks
use Rattle.mq_top.specs.declared.top.Work.{Work}
use Rattle.mq_top.specs.declared.top.Work.TheVariants as works
use Rattle.mq_top.specs.Wanted.{fault_status}
use Rattle.mq_top.specs.Headline.{Writes, check_text}

-- to run their scenario, or no more than to tell that they have one
abbrev pub IsWork : Purpose → List ℕ → Work → Type 0
IsWork purposes.Run bytes (works.Run s) = scenario_of bytes ≡ Ok s
IsWork purposes.Run bytes works.Check = ⊥
IsWork purposes.Check bytes (works.Run s) = ⊥
IsWork purposes.Check bytes works.Check = (s : Scenario) × (scenario_of bytes ≡ Ok s)

-- why bytes are no scenario
abbrev pub RefusesText : List ℕ → Status → Type 0
RefusesText bytes (status.BadScenario line cause) = (fault : ScenarioFault) × (scenario_of bytes ≡ Err fault) × (fault_status fault ≡ status.BadScenario line cause)
RefusesText bytes status.NoMemory = Unit {0}
RefusesText bytes st = ⊥

-- what a run asks of its scenario
abbrev pub FitsWork : Work → Type 0
FitsWork (works.Run s) = IsScenario s × AllFit IsTextCommand s
FitsWork works.Check = Unit {0}

-- a large run has a number up to 1000
abbrev pub FitsTask : Task → Type 0
FitsTask (tasks.Read purpose) = Unit {0}
FitsTask (tasks.Soak n) = n ≤ 1000

-- how what is left to do ends
abbrev pub WorkEnds : Work → (tells : Type 0) (held : List ℕ → List ℕ → Type 0) (start before now : ℕ) (old new : Option (List ℕ)) → Status → Option Left → List ℕ → Type 0
WorkEnds (works.Run s) tells held start before now old new st net counts = RunEnds forms.Report tells held start s before now old new st net counts
WorkEnds works.Check tells held start before now old new st net counts = (net ≡ None) × (counts ≡ []) × Writes old new check_text st
