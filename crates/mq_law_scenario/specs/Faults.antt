-- Why a text is that of no scenario: the first line that can't stand in one, and its fault.
use Rattle.std.specs.Prelude.{◌≡◌, ◌⊎◌, ℕ, ◌+◌, ◌<◌, ◌≤◌, true, List, ◌∷◌, ◌++◌, length, codes, ◌&&◌}
use Rattle.mq_text.specs.Lines.{lines_of}
use Rattle.mq_scn_lines.specs.declared.fault.Limit.TheVariants as limits
use Rattle.mq_scn_lines.specs.declared.fault.LineFault.{LineFault}
use Rattle.mq_scn_lines.specs.declared.fault.LineFault.TheVariants as line_faults
use Rattle.mq_history.specs.declared.scenario.Scenario.{Scenario}
use Rattle.mq_history.specs.declared.scripts.ScriptLine.{ScriptLine}
use Rattle.mq_scn_text.specs.declared.fault.Cause.TheVariants as causes
use Rattle.mq_scn_text.specs.declared.fault.ScenarioFault.{ScenarioFault}
use Rattle.mq_scn_text.specs.declared.fault.ScenarioFault.TheVariants as faults
use Rattle.mq_scn_heading.specs.declared.parts.Stage.TheVariants as stages
use Rattle.mq_scn_text.specs.declared.reading.Inside.{Inside}
use Rattle.mq_scn_text.specs.declared.reading.Inside.TheVariants as insides
use Rattle.mq_scn_text.specs.Faults.{fault_at}
use Rattle.mq_scn_heading.specs.Lookup.{own_name}
use Rattle.mq_scn_text.specs.Sections.{line_in}
use Rattle.mq_scn_text.specs.declared.scripts.Script.{Script}
use Rattle.mq_scn_text.specs.Scripts.{connects}
use Rattle.mq_scn_grammar.specs.Words.{IsOnly}
use Rattle.mq_scn_grammar.specs.Faults.{IsTold}
use Rattle.mq_scn_grammar.specs.ScriptLines.{IsScriptLine, HasLineFault}
use Rattle.mq_scn_parts.specs.Heading.{IsPartLineFault}
use Rattle.mq_scn_parts.specs.Steps.{HasStepFault}
use Rattle.mq_law_scenario.specs.Sections.{HasSectionFault, HasCutFault}
use Rattle.mq_law_scenario.specs.RulesTables.{HasTableFault, HasTableCut}
use Rattle.mq_law_scenario.specs.Texts.{Said, nothing_said, IsSkipped, IsOpen, AreBlocks, all_lines}

-- lines with which a text of a scenario may begin: blocks, and a part of several lines up to its end
pub record Stand (lines : List (List ℕ)) (inside : Inside) (now : Said) : Type 0 where
  pub blocks : List (List (List ℕ))
  pub before : Said
  pub behind : List (List ℕ)
  pub whole : lines ≡ all_lines blocks ++ behind
  pub are : AreBlocks 0 nothing_said blocks before
  pub opens : IsOpen (length (all_lines blocks)) before behind inside now

-- the faults of the next line of a script: no room for it, those of the line, or an MQCONN too early; and the one that is told
abbrev pub HasNextFault : ℕ → Script → (line : List ℕ) → LineFault → Type 0
HasNextFault left s line f =
    ((f ≡ line_faults.Limit limits.ScriptLines) × (25000 ≤ length s.part.lines))
    ⊎ (HasLineFault left line f ⊎ ((f ≡ line_faults.Order) × ((said : ScriptLine) × IsScriptLine left said line × ((s.connected && connects said) ≡ true))))

abbrev pub IsNextFault : ℕ → Script → (line : List ℕ) → LineFault → Type 0
IsNextFault left s line f = IsTold (λ g. HasNextFault left s line g) f

-- the faults of the next step: no room for it, or those of the step; and the one that is told
abbrev pub HasNextStepFault : Scenario → (line : List ℕ) → LineFault → Type 0
HasNextStepFault s line f = ((f ≡ line_faults.Limit limits.Steps) × (3000 ≤ length s.steps)) ⊎ HasStepFault s line f

abbrev pub IsNextStepFault : Scenario → (line : List ℕ) → LineFault → Type 0
IsNextStepFault s line f = IsTold (λ g. HasNextStepFault s line g) f

-- a line at fault, of this number, where it stands
abbrev pub IsBadLine : (number : ℕ) → Inside → Said → (line : List ℕ) → ScenarioFault → Type 0
IsBadLine number insides.Nothing now line fault = (IsSkipped line → ⊥) × ((own : LineFault) × IsPartLineFault now.scenario now.stage line own × (fault ≡ fault_at number own))
IsBadLine number (insides.Mqsc o) now line fault = IsOnly (codes "ENDMQSC") line × HasSectionFault number o fault
IsBadLine number (insides.Rules o) now line fault = IsOnly (codes "ENDRULES") line × HasTableFault (own_name now.scenario.managers o.manager) o fault
IsBadLine number (insides.Script s) now line fault =
    (IsSkipped line → ⊥) × (IsOnly (codes "ENDSCRIPT") line → ⊥) × ((own : LineFault) × IsNextFault now.left s line own × (fault ≡ fault_at number own))
IsBadLine number insides.Steps now line fault =
    (IsSkipped line → ⊥) × (IsOnly (codes "ENDSTEPS") line → ⊥) × ((own : LineFault) × IsNextStepFault now.scenario line own × (fault ≡ fault_at number own))

-- a section or a table that is cut off has this fault of its own
abbrev pub HasOwnCut : Inside → Scenario → ScenarioFault → Type 0
HasOwnCut (insides.Mqsc o) s fault = HasCutFault o fault
HasOwnCut (insides.Rules o) s fault = HasTableCut (own_name s.managers o.manager) o fault
HasOwnCut _ s fault = ⊥

-- where it has none, another one is told
abbrev pub IsCut : Inside → Said → (other fault : ScenarioFault) → Type 0
IsCut inside now other fault = HasOwnCut inside now.scenario fault ⊎ (((own : ScenarioFault) → HasOwnCut inside now.scenario own → ⊥) × (fault ≡ other))

-- the lines before it stand, and this one can't
pub record HasBadLine (text : List ℕ) (fault : ScenarioFault) : Type 0 where
  pub front : List (List ℕ)
  pub line : List ℕ
  pub later : List (List ℕ)
  pub inside : Inside
  pub now : Said
  pub whole : lines_of text ≡ front ++ line ∷ later
  pub few : length front < 40000
  pub stand : Stand front inside now
  pub bad : IsBadLine (length front + 1) inside now line fault

-- 40,000 lines stand, and one more is there
pub record HasManyLines (text : List ℕ) (fault : ScenarioFault) : Type 0 where
  pub front : List (List ℕ)
  pub line : List ℕ
  pub later : List (List ℕ)
  pub inside : Inside
  pub now : Said
  pub whole : lines_of text ≡ front ++ line ∷ later
  pub many : length front ≡ 40000
  pub stand : Stand front inside now
  pub cut_off : IsCut inside now (faults.Limit 40001 limits.Lines) fault

-- all lines stand, and the steps have not ended
pub record HasNoEnd (text : List ℕ) (fault : ScenarioFault) : Type 0 where
  pub inside : Inside
  pub now : Said
  pub few : length (lines_of text) ≤ 40000
  pub stand : Stand (lines_of text) inside now
  pub unended : now.stage ≡ stages.Steps → inside ≡ insides.Nothing → ⊥
  pub cut_off : IsCut inside now (faults.BadLine (line_in (length (lines_of text)) 1) causes.Ending) fault

-- The text is that of no scenario, for this fault.
abbrev pub IsTextFault : List ℕ → ScenarioFault → Type 0
IsTextFault text fault = HasBadLine text fault ⊎ (HasManyLines text fault ⊎ HasNoEnd text fault)
