-- Reading that may fail, and what a reader answers that may run out of memory.
use Rattle.std.specs.Prelude.{◌≡◌, ℕ, Result, Ok, Err}
use Rattle.mq_rules_text.specs.declared.fault.Flaw.{Flaw}
use Rattle.mq_rules_text.specs.declared.fault.Flaw.TheVariants as flaws
use Rattle.mq_rules_text.specs.declared.fault.RulesFault.{RulesFault}
use Rattle.mq_rules_text.specs.declared.fault.RulesFault.TheVariants as faults

-- the next step of reading, where the one before it gave something
abbrev pub and_then : {A B E : Type 0} → Result A E → (A → Result B E) → Result B E
and_then (Ok x) next = next x
and_then (Err fault) next = Err fault

-- the fault of an entry that begins on a line
abbrev pub fault_at : ℕ → Flaw → RulesFault
fault_at line flaws.Form = faults.BadLine line
fault_at line flaws.Keyword = faults.BadKeyword line
fault_at line flaws.Value = faults.BadValue line
fault_at line flaws.Action = faults.NoAction line
fault_at line flaws.Target = faults.FwdqMissing line
fault_at line flaws.Memory = faults.NoMemory

abbrev pub at_line : {A : Type 0} → ℕ → Result A Flaw → Result A RulesFault
at_line line (Ok x) = Ok x
at_line line (Err flaw) = Err (fault_at line flaw)

-- what a reader of an entry answers is what reading gives, unless memory ran out
abbrev pub Flawed : {A : Type 0} → Flaw → Result A Flaw → Type 0
Flawed flaws.Form read = read ≡ Err flaws.Form
Flawed flaws.Keyword read = read ≡ Err flaws.Keyword
Flawed flaws.Value read = read ≡ Err flaws.Value
Flawed flaws.Action read = read ≡ Err flaws.Action
Flawed flaws.Target read = read ≡ Err flaws.Target
Flawed flaws.Memory read = Unit {0}

abbrev pub Reads : {A : Type 0} → Result A Flaw → Result A Flaw → Type 0
Reads (Ok x) read = read ≡ Ok x
Reads (Err flaw) read = Flawed flaw read

-- the same for a reader of a table
abbrev pub Fails : {A : Type 0} → RulesFault → Result A RulesFault → Type 0
Fails (faults.BadLine line) read = read ≡ Err (faults.BadLine line)
Fails (faults.BadKeyword line) read = read ≡ Err (faults.BadKeyword line)
Fails (faults.BadValue line) read = read ≡ Err (faults.BadValue line)
Fails (faults.NoAction line) read = read ≡ Err (faults.NoAction line)
Fails (faults.FwdqMissing line) read = read ≡ Err (faults.FwdqMissing line)
Fails faults.NoMemory read = Unit {0}

abbrev pub Gives : {A : Type 0} → Result A RulesFault → Result A RulesFault → Type 0
Gives (Ok x) read = read ≡ Ok x
Gives (Err fault) read = Fails fault read
