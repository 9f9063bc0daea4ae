-- What can be wrong in a line, and which of several faults is told.
use Rattle.std.specs.Prelude.{◌≡◌, ℕ, nat_le, if◌then◌else◌, Result, Ok, Err}
use Rattle.mq_scn_lines.specs.declared.fault.Limit.{Limit}
use Rattle.mq_scn_lines.specs.declared.fault.Limit.TheVariants as limits
use Rattle.mq_scn_lines.specs.declared.fault.LineFault.{LineFault}
use Rattle.mq_scn_lines.specs.declared.fault.LineFault.TheVariants as faults

-- the order of limits
abbrev pub limit_rank : Limit → ℕ
limit_rank limits.Lines = 1
limit_rank limits.Managers = 3
limit_rank limits.Cables = 4
limit_rank limits.Scripts = 5
limit_rank limits.Sections = 6
limit_rank limits.Monitors = 7
limit_rank limits.Steps = 8
limit_rank limits.ScriptLines = 9
limit_rank limits.Bodies = 10
limit_rank limits.Body = 11
limit_rank limits.Turns = 12
limit_rank limits.Clock = 13
limit_rank limits.LogMax = 14

-- the order in which faults of one line are told: the limit of lines, the form, the other limits, and so on
abbrev pub rank : LineFault → ℕ
rank faults.NoMemory = 0
rank faults.Form = 2
rank (faults.Limit limit) = limit_rank limit
rank faults.Name = 15
rank faults.Unknown = 16
rank faults.Twice = 17
rank faults.Number = 18
rank faults.Order = 19
rank (faults.Mqsc fault) = 20

abbrev pub earlier : LineFault → LineFault → LineFault
earlier one other = if nat_le (rank one) (rank other) then one else other

-- what two parts of a line say, or the first fault of theirs
abbrev pub both : {A B : Type 0} → Result A LineFault → Result B LineFault → Result (A × B) LineFault
both (Ok a) (Ok b) = Ok (a, b)
both (Ok a) (Err fault) = Err fault
both (Err fault) (Ok b) = Err fault
both (Err fault) (Err other) = Err (earlier fault other)

-- what a reader answers is what reading gives, unless memory ran out
abbrev pub Fails : {A : Type 0} → LineFault → Result A LineFault → Type 0
Fails faults.NoMemory read = Unit {0}
Fails faults.Form read = read ≡ Err faults.Form
Fails (faults.Limit limit) read = read ≡ Err (faults.Limit limit)
Fails faults.Name read = read ≡ Err faults.Name
Fails faults.Unknown read = read ≡ Err faults.Unknown
Fails faults.Twice read = read ≡ Err faults.Twice
Fails faults.Number read = read ≡ Err faults.Number
Fails faults.Order read = read ≡ Err faults.Order
Fails (faults.Mqsc fault) read = read ≡ Err (faults.Mqsc fault)

abbrev pub Reads : {A : Type 0} → Result A LineFault → Result A LineFault → Type 0
Reads (Ok x) read = read ≡ Ok x
Reads (Err fault) read = Fails fault read
