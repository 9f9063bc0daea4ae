-- What the heading and the sections of a scenario declare.
use Rattle.std.specs.Prelude.{ℕ, nat_lt, Bool, true, false, ◌||◌, List, [], if◌then◌else◌, Option, Some, None, Result, Ok, Err, position, slice_get}
use Rattle.std.specs.Str.{bytes_eq}
use Rattle.mq_history.specs.declared.scenario.Scenario.{Scenario}
use Rattle.mq_history.specs.declared.scenario.ManagerLine.{ManagerLine}
use Rattle.mq_history.specs.declared.scenario.Section.{Section}
use Rattle.mq_history.specs.declared.scenario.RulesPart.{RulesPart}
use Rattle.mq_history.specs.declared.scenario.ScriptPart.{ScriptPart}
use Rattle.mq_history.specs.declared.scenario.MonitorLine.{MonitorLine}
use Rattle.mq_scn_lines.specs.declared.fault.LineFault.{LineFault}
use Rattle.mq_scn_lines.specs.declared.fault.LineFault.TheVariants as faults
use Rattle.mq_scn_lines.specs.Operands.{label_in, name_in}

-- a place that was found
abbrev pub known : Option ℕ → Result ℕ LineFault
known None = Err faults.Unknown
known (Some at) = if nat_lt at 65536 then Ok at else Err faults.Unknown

abbrev pub found : (List ℕ → Option ℕ) → Result (List ℕ) LineFault → Result ℕ LineFault
found place (Ok name) = known (place name)
found place (Err fault) = Err fault

-- managers by name
abbrev pub manager_place : List ℕ → List ManagerLine → Option ℕ
manager_place name managers = position (λ (m : ManagerLine). bytes_eq m.name name) managers

abbrev pub manager_at : List ManagerLine → List ℕ → Result ℕ LineFault
manager_at managers word = found (λ name. manager_place name managers) (name_in 48 word)

-- sections, rules tables, scripts and monitors by label
abbrev pub section_place : List ℕ → List Section → Option ℕ
section_place label sections = position (λ (s : Section). bytes_eq s.label label) sections

abbrev pub rules_place : List ℕ → List RulesPart → Option ℕ
rules_place label rules = position (λ (r : RulesPart). bytes_eq r.label label) rules

abbrev pub script_place : List ℕ → List ScriptPart → Option ℕ
script_place label scripts = position (λ (s : ScriptPart). bytes_eq s.label label) scripts

abbrev pub monitor_place : List ℕ → List MonitorLine → Option ℕ
monitor_place label monitors = position (λ (m : MonitorLine). bytes_eq m.label label) monitors

abbrev pub section_at : List Section → List ℕ → Result ℕ LineFault
section_at sections word = found (λ label. section_place label sections) (label_in word)

abbrev pub rules_at : List RulesPart → List ℕ → Result ℕ LineFault
rules_at rules word = found (λ label. rules_place label rules) (label_in word)

abbrev pub script_at : List ScriptPart → List ℕ → Result ℕ LineFault
script_at scripts word = found (λ label. script_place label scripts) (label_in word)

abbrev pub monitor_at : List MonitorLine → List ℕ → Result ℕ LineFault
monitor_at monitors word = found (λ label. monitor_place label monitors) (label_in word)

abbrev pub is_place : Option ℕ → Bool
is_place None = false
is_place (Some at) = true

-- they share one name space
abbrev pub is_declared : List ℕ → Scenario → Bool
is_declared label s = is_place (section_place label s.sections) || is_place (rules_place label s.rules) || is_place (script_place label s.scripts) || is_place (monitor_place label s.monitors)

abbrev pub unless_declared : Scenario → Result (List ℕ) LineFault → Result (List ℕ) LineFault
unless_declared s (Ok label) = if is_declared label s then Err faults.Twice else Ok label
unless_declared s (Err fault) = Err fault

-- a label that no part has yet
abbrev pub new_label : Scenario → List ℕ → Result (List ℕ) LineFault
new_label s word = unless_declared s (label_in word)

abbrev pub name_of_line : Option ManagerLine → List ℕ
name_of_line None = []
name_of_line (Some m) = m.name

-- the name of the manager at a place
abbrev pub own_name : List ManagerLine → ℕ → List ℕ
own_name managers place = name_of_line (slice_get managers place)
