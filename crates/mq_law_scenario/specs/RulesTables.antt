-- What a rules table in a scenario says, and why it is none, with the number of the line in the scenario.
use Rattle.std.specs.Prelude.{◌≡◌, ℕ, List, [], ◌∷◌, ◌++◌}
use Rattle.mq_rules.specs.declared.rule.Table.{Table}
use Rattle.mq_rules_text.specs.declared.fault.RulesFault.{RulesFault}
use Rattle.mq_rules_grammar.specs.Tables.{IsTable}
use Rattle.mq_rules_grammar.specs.Faults.{HasFault}
use Rattle.mq_history.specs.declared.scenario.RulesPart.{RulesPart}
use Rattle.mq_scn_text.specs.declared.fault.ScenarioFault.{ScenarioFault}
use Rattle.mq_scn_text.specs.declared.sections.Opened.{Opened}
use Rattle.mq_scn_text.specs.Sections.{line_in, rules_fault}
use Rattle.mq_law_scenario.specs.Sections.{GoesOnFrom, StandsBefore}

-- the table that is open says this at the manager of that name, up to its end
abbrev pub IsRulesPart : (own : List ℕ) → Opened → RulesPart → Type 0
IsRulesPart own o part = (table : Table) × IsTable own o.text table × (part ≡ record { label = o.label; manager = o.manager; table = table })

-- the fault of a text that stands behind so many lines
abbrev pub HasTextFault : (own text : List ℕ) → (first : ℕ) → ScenarioFault → Type 0
HasTextFault own text first fault = (f : RulesFault) × HasFault own text f × (fault ≡ rules_fault first f)

abbrev pub HasTableFault : (own : List ℕ) → Opened → ScenarioFault → Type 0
HasTableFault own o fault = HasTextFault own o.text o.first fault

-- A table that no line ends, where an empty line behind it lets its last entry go on no further, has a fault of its own, but
-- none in a last line that goes on.
abbrev pub HasTableCut : (own : List ℕ) → Opened → ScenarioFault → Type 0
HasTableCut own o fault = HasTextFault own (o.text ++ 10 ∷ []) o.first fault × ((from : ℕ) → GoesOnFrom o.text from → StandsBefore fault (line_in o.first from))
