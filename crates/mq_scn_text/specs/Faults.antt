-- Why a text is no scenario.
use Rattle.std.specs.Prelude.{◌≡◌, ℕ, Result, Ok, Err}
use Rattle.mq_scn_lines.specs.declared.fault.LineFault.{LineFault}
use Rattle.mq_scn_lines.specs.declared.fault.LineFault.TheVariants as line_faults
use Rattle.mq_scn_text.specs.declared.fault.Cause.TheVariants as causes
use Rattle.mq_scn_text.specs.declared.fault.ScenarioFault.{ScenarioFault}
use Rattle.mq_scn_text.specs.declared.fault.ScenarioFault.TheVariants as faults

-- the fault of a text whose line of that number has a fault
abbrev pub fault_at : ℕ → LineFault → ScenarioFault
fault_at line line_faults.NoMemory = faults.NoMemory
fault_at line line_faults.Form = faults.BadLine line causes.Form
fault_at line (line_faults.Limit limit) = faults.Limit line limit
fault_at line line_faults.Name = faults.BadLine line causes.Name
fault_at line line_faults.Unknown = faults.BadLine line causes.Unknown
fault_at line line_faults.Twice = faults.BadLine line causes.Twice
fault_at line line_faults.Number = faults.BadLine line causes.Number
fault_at line line_faults.Order = faults.BadLine line causes.Order
fault_at line (line_faults.Mqsc fault) = faults.BadLine line (causes.Mqsc fault)

abbrev pub at_line : {A : Type 0} → ℕ → Result A LineFault → Result A ScenarioFault
at_line line (Ok x) = Ok x
at_line line (Err fault) = Err (fault_at line fault)

abbrev pub and_then : {A B : Type 0} → Result A ScenarioFault → (A → Result B ScenarioFault) → Result B ScenarioFault
and_then (Ok x) next = next x
and_then (Err fault) next = Err fault

-- what a reader answers is what reading gives, unless memory ran out
abbrev pub Fails : {A : Type 0} → ScenarioFault → Result A ScenarioFault → Type 0
Fails (faults.BadLine line cause) read = read ≡ Err (faults.BadLine line cause)
Fails (faults.Limit line limit) read = read ≡ Err (faults.Limit line limit)
Fails faults.NoMemory read = Unit {0}

abbrev pub Gives : {A : Type 0} → Result A ScenarioFault → Result A ScenarioFault → Type 0
Gives (Ok x) read = read ≡ Ok x
Gives (Err fault) read = Fails fault read
