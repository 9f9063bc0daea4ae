-- What a text of a scenario is: its lines in blocks, one behind the other. A block is a line that says nothing, a part of
-- one line, or a section, a rules table, a script or the steps with all their lines.
use Rattle.std.specs.Prelude.{◌≡◌, ◌⊎◌, ℕ, ◌+◌, ◌-◌, ◌≤◌, false, List, [], ◌∷◌, ◌++◌, length, codes, Some, ◌<◌, ◌&&◌}
use Rattle.std.specs.List.{flat_map}
use Rattle.mq_text.specs.Lines.{lines_of}
use Rattle.mq_history.specs.declared.scenario.Scenario.{Scenario}
use Rattle.mq_history.specs.declared.scenario.Section.{Section}
use Rattle.mq_history.specs.declared.scenario.RulesPart.{RulesPart}
use Rattle.mq_history.specs.declared.scenario.Step.{Step}
use Rattle.mq_history.specs.declared.scripts.ScriptLine.{ScriptLine}
use Rattle.mq_scn_heading.specs.declared.parts.Stage.{Stage}
use Rattle.mq_scn_heading.specs.declared.parts.Stage.TheVariants as stages
use Rattle.mq_scn_heading.specs.declared.heading.PartLine.{PartLine}
use Rattle.mq_scn_heading.specs.declared.heading.PartLine.TheVariants as parts
use Rattle.mq_scn_text.specs.declared.sections.Opened.{Opened}
use Rattle.mq_scn_text.specs.declared.scripts.Script.{Script}
use Rattle.mq_scn_text.specs.declared.reading.Inside.{Inside}
use Rattle.mq_scn_text.specs.declared.reading.Inside.TheVariants as insides
use Rattle.mq_scn_heading.specs.Lookup.{own_name}
use Rattle.mq_scn_text.specs.Scripts.{new_script, put_len, connects, script_added}
use Rattle.mq_scn_text.specs.Reading.{nothing}
use Rattle.mq_sc_grammar.specs.Texts.{IsComment}
use Rattle.mq_scn_grammar.specs.Words.{AreBlanks, IsOnly}
use Rattle.mq_scn_grammar.specs.ScriptLines.{IsScriptLine}
use Rattle.mq_scn_parts.specs.Heading.{IsPartLine}
use Rattle.mq_scn_parts.specs.Steps.{IsStepLine}
use Rattle.mq_law_scenario.specs.Sections.{IsSection}
use Rattle.mq_law_scenario.specs.RulesTables.{IsRulesPart}

-- what blocks have said: how far the parts have come, the bytes left of the limit of all bodies, the scenario so far
pub record Said : Type 0 where
  pub stage : Stage
  pub left : ℕ
  pub scenario : Scenario

abbrev pub nothing_said : Said
nothing_said = record { stage = stages.Start; left = 67108864; scenario = nothing }

-- ---- lines that say nothing

-- a line that begins with a star, or is blanks
abbrev pub IsSkipped : List ℕ → Type 0
IsSkipped line = IsComment line ⊎ AreBlanks line

-- ---- parts of one line

-- a line with which a part begins, what it says, and the stage behind it
pub record Begins (before : Said) (line : List ℕ) (stage : Stage) (part : PartLine) : Type 0 where
  pub unskipped : IsSkipped line → ⊥
  pub says : IsPartLine before.scenario before.stage line (stage, part)

-- what a part of one line adds to the scenario
abbrev pub Adds : PartLine → (before after : Scenario) → Type 0
Adds parts.Network s t = t ≡ s
Adds (parts.Moment moment) s t = t ≡ record s { moment = Some moment }
Adds (parts.Manager manager) s t = t ≡ record s { managers = s.managers ++ manager ∷ [] }
Adds (parts.Cable cable) s t = t ≡ record s { cables = s.cables ++ cable ∷ [] }
Adds (parts.Monitor monitor) s t = t ≡ record s { monitors = s.monitors ++ monitor ∷ [] }
Adds _ s t = ⊥

pub record IsPart (before : Said) (lines : List (List ℕ)) (after : Said) : Type 0 where
  pub line : List ℕ
  pub stage : Stage
  pub part : PartLine
  pub scenario : Scenario
  pub whole : lines ≡ line ∷ []
  pub begins : Begins before line stage part
  pub adds : Adds part before.scenario scenario
  pub is : after ≡ record { stage = stage; left = before.left; scenario = scenario }

-- ---- parts of several lines, up to their end

-- none of the lines has this one word
abbrev pub NoneIs : List ℕ → List (List ℕ) → Type 0
NoneIs word [] = Unit {0}
NoneIs word (line ∷ lines) = (IsOnly word line → ⊥) × NoneIs word lines

-- the text of lines, each with its line feed
abbrev pub text_of : List (List ℕ) → List ℕ
text_of lines = flat_map (λ (line : List ℕ). line ++ 10 ∷ []) lines

-- a part whose lines are text, behind so many lines, up to its end: the part that its first line begins, and the word that ends it
pub record IsOpenText (part : List ℕ → ℕ → PartLine) (word : List ℕ) (n : ℕ) (before : Said) (lines : List (List ℕ)) (o : Opened) (now : Said) : Type 0 where
  pub head : List ℕ
  pub inner : List (List ℕ)
  pub stage : Stage
  pub label : List ℕ
  pub manager : ℕ
  pub whole : lines ≡ head ∷ inner
  pub begins : Begins before head stage (part label manager)
  pub within : NoneIs word inner
  pub opens : o ≡ record { label = label; manager = manager; first = n + 1; text = text_of inner }
  pub is : now ≡ record { stage = stage; left = before.left; scenario = before.scenario }

-- an MQSC section, and a rules table
abbrev pub IsOpenSection : ℕ → Said → List (List ℕ) → Opened → Said → Type 0
IsOpenSection n before lines o now = IsOpenText (λ label manager. parts.Mqsc label manager) (codes "ENDMQSC") n before lines o now

abbrev pub IsOpenTable : ℕ → Said → List (List ℕ) → Opened → Said → Type 0
IsOpenTable n before lines o now = IsOpenText (λ label manager. parts.Rules label manager) (codes "ENDRULES") n before lines o now

-- the next line of a script: there is room for it, and an MQCONN stands only where the one before it has an MQDISC behind it
pub record IsNextLine (left : ℕ) (s : Script) (line : List ℕ) (said : ScriptLine) : Type 0 where
  pub unskipped : IsSkipped line → ⊥
  pub unended : IsOnly (codes "ENDSCRIPT") line → ⊥
  pub room : length s.part.lines < 25000
  pub says : IsScriptLine left said line
  pub order : (s.connected && connects said) ≡ false

-- the lines of a script, behind others
abbrev pub AreSpoken : (left : ℕ) → Script → List (List ℕ) → (left_behind : ℕ) → Script → Type 0
AreSpoken left s [] left_behind t = (left_behind ≡ left) × (t ≡ s)
AreSpoken left s (line ∷ lines) left_behind t =
    (IsSkipped line × AreSpoken left s lines left_behind t)
    ⊎ ((said : ScriptLine) × IsNextLine left s line said × AreSpoken (left - put_len said) (script_added said s) lines left_behind t)

-- a script up to its end
pub record IsOpenScript (before : Said) (lines : List (List ℕ)) (s : Script) (now : Said) : Type 0 where
  pub head : List ℕ
  pub inner : List (List ℕ)
  pub stage : Stage
  pub label : List ℕ
  pub manager : ℕ
  pub left : ℕ
  pub whole : lines ≡ head ∷ inner
  pub begins : Begins before head stage (parts.Script label manager)
  pub says : AreSpoken before.left (new_script label manager) inner left s
  pub is : now ≡ record { stage = stage; left = left; scenario = before.scenario }

-- the next step, where there is room for it
pub record IsNextStep (s : Scenario) (line : List ℕ) (step : Step) : Type 0 where
  pub unskipped : IsSkipped line → ⊥
  pub unended : IsOnly (codes "ENDSTEPS") line → ⊥
  pub room : length s.steps < 3000
  pub says : IsStepLine s line step

-- steps behind others
abbrev pub AreStepped : Scenario → List (List ℕ) → Scenario → Type 0
AreStepped s [] t = t ≡ s
AreStepped s (line ∷ lines) t =
    (IsSkipped line × AreStepped s lines t)
    ⊎ ((step : Step) × IsNextStep s line step × AreStepped (record s { steps = s.steps ++ step ∷ [] }) lines t)

-- the steps up to their end
pub record AreOpenSteps (before : Said) (lines : List (List ℕ)) (now : Said) : Type 0 where
  pub head : List ℕ
  pub inner : List (List ℕ)
  pub stage : Stage
  pub scenario : Scenario
  pub whole : lines ≡ head ∷ inner
  pub begins : Begins before head stage parts.Steps
  pub says : AreStepped before.scenario inner scenario
  pub is : now ≡ record { stage = stage; left = before.left; scenario = scenario }

-- lines behind blocks: none, or a part of several lines up to its end
abbrev pub IsOpen : ℕ → Said → List (List ℕ) → Inside → Said → Type 0
IsOpen n before lines insides.Nothing now = (lines ≡ []) × (now ≡ before)
IsOpen n before lines (insides.Mqsc o) now = IsOpenSection n before lines o now
IsOpen n before lines (insides.Rules o) now = IsOpenTable n before lines o now
IsOpen n before lines (insides.Script s) now = IsOpenScript before lines s now
IsOpen n before lines insides.Steps now = AreOpenSteps before lines now

-- ---- whole blocks

-- a line that ends what is open, and what is said then
abbrev pub Ends : (number : ℕ) → Inside → Said → (line : List ℕ) → Said → Type 0
Ends number insides.Nothing now line after = ⊥
Ends number (insides.Mqsc o) now line after =
    (section : Section) × IsOnly (codes "ENDMQSC") line × IsSection o section
    × (after ≡ record now { scenario = record now.scenario { sections = now.scenario.sections ++ section ∷ [] } })
Ends number (insides.Rules o) now line after =
    (part : RulesPart) × IsOnly (codes "ENDRULES") line × IsRulesPart (own_name now.scenario.managers o.manager) o part
    × (after ≡ record now { scenario = record now.scenario { rules = now.scenario.rules ++ part ∷ [] } })
Ends number (insides.Script s) now line after =
    (IsSkipped line → ⊥) × IsOnly (codes "ENDSCRIPT") line × (after ≡ record now { scenario = record now.scenario { scripts = now.scenario.scripts ++ s.part ∷ [] } })
Ends number insides.Steps now line after = (IsSkipped line → ⊥) × IsOnly (codes "ENDSTEPS") line × (after ≡ now)

-- a part of several lines, with its end
pub record IsEnded (n : ℕ) (before : Said) (lines : List (List ℕ)) (after : Said) : Type 0 where
  pub front : List (List ℕ)
  pub last : List ℕ
  pub inside : Inside
  pub now : Said
  pub whole : lines ≡ front ++ last ∷ []
  pub opens : IsOpen n before front inside now
  pub ends : Ends (n + length front + 1) inside now last after

-- a line that says nothing
abbrev pub SaysNothing : Said → List (List ℕ) → Said → Type 0
SaysNothing before lines after = (line : List ℕ) × (lines ≡ line ∷ []) × IsSkipped line × (after ≡ before)

-- a block behind so many lines
abbrev pub IsBlock : ℕ → Said → List (List ℕ) → Said → Type 0
IsBlock n before lines after = SaysNothing before lines after ⊎ (IsPart before lines after ⊎ IsEnded n before lines after)

-- blocks, one behind the other, and their lines
abbrev pub AreBlocks : ℕ → Said → List (List (List ℕ)) → Said → Type 0
AreBlocks n before [] after = after ≡ before
AreBlocks n before (block ∷ blocks) after = (next : Said) × IsBlock n before block next × AreBlocks (n + length block) next blocks after

abbrev pub all_lines : List (List (List ℕ)) → List (List ℕ)
all_lines blocks = flat_map (λ (block : List (List ℕ)). block) blocks

-- The text is that of the scenario: its lines are blocks, 40,000 lines at most, and the last part is that of the steps.
pub record IsText (text : List ℕ) (s : Scenario) : Type 0 where
  pub blocks : List (List (List ℕ))
  pub end : Said
  pub whole : lines_of text ≡ all_lines blocks
  pub few : length (lines_of text) ≤ 40000
  pub are : AreBlocks 0 nothing_said blocks end
  pub last : end.stage ≡ stages.Steps
  pub is : s ≡ end.scenario
