-- What a scenario has declared: managers by name, the others by label; and names and labels that are new.
use Rattle.std.specs.Prelude.{◌≡◌, ◌⊎◌, ℕ, ◌+◌, ◌<◌, List, [], ◌∷◌, map}
use Rattle.mq_history.specs.declared.scenario.Scenario.{Scenario}
use Rattle.mq_history.specs.declared.scenario.ManagerLine.{ManagerLine}
use Rattle.mq_history.specs.declared.scenario.CableLine.{CableLine}
use Rattle.mq_history.specs.declared.scenario.Section.{Section}
use Rattle.mq_history.specs.declared.scenario.RulesPart.{RulesPart}
use Rattle.mq_history.specs.declared.scenario.ScriptPart.{ScriptPart}
use Rattle.mq_history.specs.declared.scenario.MonitorLine.{MonitorLine}
use Rattle.mq_scn_lines.specs.declared.fault.LineFault.{LineFault}
use Rattle.mq_scn_lines.specs.declared.fault.LineFault.TheVariants as faults
use Rattle.mq_scn_grammar.specs.Words.{Mem}
use Rattle.mq_scn_grammar.specs.Faults.{IsMissed}
use Rattle.mq_scn_grammar.specs.Operands.{IsLabelWord, IsNameWord}

-- ---- what is declared

abbrev pub manager_names : List ManagerLine → List (List ℕ)
manager_names managers = map (λ (m : ManagerLine). m.name) managers

abbrev pub channel_names : List CableLine → List (List ℕ)
channel_names cables = map (λ (c : CableLine). c.channel) cables

abbrev pub section_labels : List Section → List (List ℕ)
section_labels sections = map (λ (p : Section). p.label) sections

abbrev pub rules_labels : List RulesPart → List (List ℕ)
rules_labels rules = map (λ (p : RulesPart). p.label) rules

abbrev pub script_labels : List ScriptPart → List (List ℕ)
script_labels scripts = map (λ (p : ScriptPart). p.label) scripts

abbrev pub monitor_labels : List MonitorLine → List (List ℕ)
monitor_labels monitors = map (λ (m : MonitorLine). m.label) monitors

-- sections, rules tables, scripts and monitors share one name space
abbrev pub HasLabel : Scenario → List ℕ → Type 0
HasLabel s label =
    (Mem label (section_labels s.sections) ⊎ Mem label (rules_labels s.rules))
    ⊎ (Mem label (script_labels s.scripts) ⊎ Mem label (monitor_labels s.monitors))

-- ---- places

-- the first place at which a name stands
abbrev pub IsFirstPlace : (names : List (List ℕ)) → (name : List ℕ) → ℕ → Type 0
IsFirstPlace [] name n = ⊥
IsFirstPlace (m ∷ ms) name n = ((m ≡ name) × (n ≡ 0)) ⊎ ((m ≡ name → ⊥) × ((k : ℕ) × IsFirstPlace ms name k × (n ≡ k + 1)))

-- the place of a name that is declared; places are numbers of 16 bits
abbrev pub IsPlace : (names : List (List ℕ)) → (name : List ℕ) → ℕ → Type 0
IsPlace names name n = IsFirstPlace names name n × (n < 65536)

-- a word is the name of what stands at a place
abbrev pub NamesPlace : (names : List (List ℕ)) → (word : List ℕ) → ℕ → Type 0
NamesPlace names word n = (name : List ℕ) × IsNameWord 48 name word × IsPlace names name n

-- a word that is no name, or one that isn't declared
abbrev pub HasNameFault : (names : List (List ℕ)) → (word : List ℕ) → LineFault → Type 0
HasNameFault names word f =
    IsMissed faults.Name (λ (name : List ℕ). IsNameWord 48 name word) f
    ⊎ ((name : List ℕ) × IsNameWord 48 name word × IsMissed faults.Unknown (IsPlace names name) f)

-- the same of labels
abbrev pub LabelsPlace : (labels : List (List ℕ)) → (word : List ℕ) → ℕ → Type 0
LabelsPlace labels word n = (label : List ℕ) × IsLabelWord label word × IsPlace labels label n

abbrev pub HasLabelFault : (labels : List (List ℕ)) → (word : List ℕ) → LineFault → Type 0
HasLabelFault labels word f =
    IsMissed faults.Name (λ (label : List ℕ). IsLabelWord label word) f
    ⊎ ((label : List ℕ) × IsLabelWord label word × IsMissed faults.Unknown (IsPlace labels label) f)

-- ---- what is new

-- a name that none of these is
abbrev pub IsNewName : ℕ → (names : List (List ℕ)) → (word name : List ℕ) → Type 0
IsNewName width names word name = IsNameWord width name word × (Mem name names → ⊥)

-- a word that is no name, or one that stands already
abbrev pub HasNewNameFault : ℕ → (names : List (List ℕ)) → (word : List ℕ) → LineFault → Type 0
HasNewNameFault width names word f =
    IsMissed faults.Name (λ (name : List ℕ). IsNameWord width name word) f
    ⊎ ((name : List ℕ) × IsNameWord width name word × ((f ≡ faults.Twice) × Mem name names))

-- a label that no part has
abbrev pub IsNewLabel : Scenario → (word label : List ℕ) → Type 0
IsNewLabel s word label = IsLabelWord label word × (HasLabel s label → ⊥)

abbrev pub HasNewLabelFault : Scenario → (word : List ℕ) → LineFault → Type 0
HasNewLabelFault s word f =
    IsMissed faults.Name (λ (label : List ℕ). IsLabelWord label word) f
    ⊎ ((label : List ℕ) × IsLabelWord label word × ((f ≡ faults.Twice) × HasLabel s label))
