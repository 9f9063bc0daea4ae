-- What the words ask for, and what the bytes say of a scenario.
use Rattle.std.specs.Prelude.{ℕ, ◌==◌, Bool, false, List, [], ◌∷◌, if◌then◌else◌, Option, Some, None, Result, Ok, Err, codes, option_map}
use Rattle.std.specs.Str.{bytes_eq}
use Rattle.mq_history.specs.declared.scenario.Scenario.{Scenario}
use Rattle.mq_scn_text.specs.declared.fault.ScenarioFault.{ScenarioFault}
use Rattle.mq_scn_text.specs.declared.fault.ScenarioFault.TheVariants as faults
use Rattle.mq_scn_text.specs.Reading.{scenario_of}
use Rattle.mq_run.specs.declared.status.BadCause.TheVariants as causes
use Rattle.mq_run.specs.declared.status.Status.{Status}
use Rattle.mq_run.specs.declared.status.Status.TheVariants as status
use Rattle.mq_text.specs.declared.numbers.NumberFault.{NumberFault}
use Rattle.mq_text.specs.Numbers.{number_in}
use Rattle.mq_top.specs.declared.top.Purpose.TheVariants as purposes
use Rattle.mq_top.specs.declared.top.Task.{Task}
use Rattle.mq_top.specs.declared.top.Task.TheVariants as tasks

-- the one word run, or the one word check
abbrev pub word_task : List ℕ → Option Task
word_task word = if bytes_eq word (codes "run") then Some (tasks.Read purposes.Run) else if bytes_eq word (codes "check") then Some (tasks.Read purposes.Check) else None

-- a number from 1 to 1000 in decimal digits, without a zero in front
abbrev pub has_zero : List ℕ → Bool
has_zero [] = false
has_zero (b ∷ bs) = b == 48

abbrev pub number_or_none : Result ℕ NumberFault → Option ℕ
number_or_none (Ok n) = Some n
number_or_none (Err fault) = None

abbrev pub soak_number : List ℕ → Option ℕ
soak_number text = if has_zero text then None else number_or_none (number_in 1 1000 text)

-- the word soak and such a number
abbrev pub number_task : List ℕ → List ℕ → Option Task
number_task word number = if bytes_eq word (codes "soak") then option_map tasks.Soak (soak_number number) else None

-- what the words ask for
abbrev pub task_of : List (List ℕ) → Option Task
task_of [] = None
task_of (word ∷ []) = word_task word
task_of (word ∷ number ∷ []) = number_task word number
task_of (word ∷ number ∷ other ∷ words) = None

-- the fault of a text, told as a status
abbrev pub fault_status : ScenarioFault → Status
fault_status (faults.BadLine line cause) = status.BadScenario line (causes.Line cause)
fault_status (faults.Limit line limit) = status.BadScenario line (causes.Limit limit)
fault_status faults.NoMemory = status.NoMemory

abbrev pub text_status : Result Scenario ScenarioFault → Status
text_status (Ok s) = status.Ok
text_status (Err fault) = fault_status fault

-- why these bytes are refused; Ok where they aren't
abbrev pub wanted : List ℕ → Status
wanted bytes = text_status (scenario_of bytes)
