-- Whole texts of scenarios, line by line.
use Rattle.std.specs.Prelude.{ℕ, ◌+◌, ◌-◌, ◌==◌, nat_le, nat_lt, ◌&&◌, ◌||◌, Bool, true, false, List, [], ◌∷◌, ◌++◌, length, codes, if◌then◌else◌, Option, Some, None, Result, Ok, Err}
use Rattle.std.specs.Str.{bytes_eq}
use Rattle.mq_text.specs.Lines.{lines_of}
use Rattle.mq_history.specs.declared.scenario.Scenario.{Scenario}
use Rattle.mq_history.specs.declared.scenario.ManagerLine.{ManagerLine}
use Rattle.mq_history.specs.declared.scenario.CableLine.{CableLine}
use Rattle.mq_history.specs.declared.scenario.MonitorLine.{MonitorLine}
use Rattle.mq_history.specs.declared.scenario.Section.{Section}
use Rattle.mq_history.specs.declared.scenario.RulesPart.{RulesPart}
use Rattle.mq_history.specs.declared.scenario.Step.{Step}
use Rattle.mq_history.specs.declared.scripts.ScriptLine.{ScriptLine}
use Rattle.mq_scn_lines.specs.declared.fault.Limit.TheVariants as limits
use Rattle.mq_scn_lines.specs.declared.fault.LineFault.{LineFault}
use Rattle.mq_scn_lines.specs.declared.fault.LineFault.TheVariants as line_faults
use Rattle.mq_scn_lines.specs.Faults.{both}
use Rattle.mq_scn_lines.specs.Words.{first_word}
use Rattle.mq_scn_text.specs.declared.fault.Cause.TheVariants as causes
use Rattle.mq_scn_text.specs.declared.fault.ScenarioFault.{ScenarioFault}
use Rattle.mq_scn_text.specs.declared.fault.ScenarioFault.TheVariants as faults
use Rattle.mq_scn_heading.specs.declared.parts.PartWord.{PartWord}
use Rattle.mq_scn_heading.specs.declared.parts.Stage.{Stage}
use Rattle.mq_scn_heading.specs.declared.parts.Stage.TheVariants as stages
use Rattle.mq_scn_heading.specs.declared.heading.PartLine.{PartLine}
use Rattle.mq_scn_heading.specs.declared.heading.PartLine.TheVariants as parts
use Rattle.mq_scn_text.specs.declared.sections.Opened.{Opened}
use Rattle.mq_scn_text.specs.declared.scripts.Script.{Script}
use Rattle.mq_scn_text.specs.declared.reading.Inside.{Inside}
use Rattle.mq_scn_text.specs.declared.reading.Inside.TheVariants as insides
use Rattle.mq_scn_text.specs.declared.reading.Reading.{Reading}
use Rattle.mq_scn_text.specs.Faults.{fault_at, and_then}
use Rattle.mq_scn_heading.specs.Lookup.{own_name}
use Rattle.mq_scn_heading.specs.Parts.{part_word_of}
use Rattle.mq_scn_heading.specs.Heading.{part_read}
use Rattle.mq_scn_text.specs.Sections.{line_in, text_added, mqsc_ended, mqsc_cut, rules_ended, rules_cut}
use Rattle.mq_scn_text.specs.Scripts.{new_script, put_len, script_read, script_added}
use Rattle.mq_scn_heading.specs.Steps.{step_line}

abbrev pub nothing : Scenario
nothing = record { moment = None; managers = []; cables = []; sections = []; rules = []; scripts = []; monitors = []; steps = [] }

-- nothing was read; 67,108,864 bytes are left of the limit of all bodies
abbrev pub nothing_read : Reading
nothing_read = record { lines = 0; stage = stages.Start; inside = insides.Nothing; left = 67108864; scenario = nothing }

-- ---- lines that end a part, and lines that say nothing

abbrev pub no_word : Option (List ℕ × List ℕ) → Bool
no_word None = true
no_word (Some p) = false

abbrev pub only_word : List ℕ → Option (List ℕ × List ℕ) → Bool
only_word word None = false
only_word word (Some p) = bytes_eq p.0 word && no_word (first_word p.1)

-- a line of this one word
abbrev pub is_only : List ℕ → List ℕ → Bool
is_only word line = only_word word (first_word line)

abbrev pub is_comment : List ℕ → Bool
is_comment [] = false
is_comment (b ∷ bs) = b == 42

-- a blank line, or one that begins with a star
abbrev pub is_skipped : List ℕ → Bool
is_skipped line = is_comment line || no_word (first_word line)

-- ---- lines of the heading, and those with which parts begin

abbrev pub opened : List ℕ → ℕ → ℕ → Opened
opened label manager first = record { label = label; manager = manager; first = first; text = [] }

abbrev pub with_moment : ℕ → Reading → Reading
with_moment moment r = record r { scenario = record r.scenario { moment = Some moment } }

abbrev pub with_manager : ManagerLine → Reading → Reading
with_manager manager r = record r { scenario = record r.scenario { managers = r.scenario.managers ++ manager ∷ [] } }

abbrev pub with_cable : CableLine → Reading → Reading
with_cable cable r = record r { scenario = record r.scenario { cables = r.scenario.cables ++ cable ∷ [] } }

abbrev pub with_monitor : MonitorLine → Reading → Reading
with_monitor monitor r = record r { scenario = record r.scenario { monitors = r.scenario.monitors ++ monitor ∷ [] } }

abbrev pub gone_inside : Inside → Reading → Reading
gone_inside inside r = record r { inside = inside }

-- what a part's first line says, which has that number, is added
abbrev pub part_added : ℕ → PartLine → Reading → Reading
part_added number parts.Network r = r
part_added number (parts.Moment moment) r = with_moment moment r
part_added number (parts.Manager manager) r = with_manager manager r
part_added number (parts.Cable cable) r = with_cable cable r
part_added number (parts.Mqsc label manager) r = gone_inside (insides.Mqsc (opened label manager number)) r
part_added number (parts.Rules label manager) r = gone_inside (insides.Rules (opened label manager number)) r
part_added number (parts.Script label manager) r = gone_inside (insides.Script (new_script label manager)) r
part_added number (parts.Monitor monitor) r = with_monitor monitor r
part_added number parts.Steps r = gone_inside insides.Steps r

abbrev pub part_begun : ℕ → Reading → Result (Stage × PartLine) LineFault → Result Reading ScenarioFault
part_begun number r (Ok p) = Ok (part_added number p.1 (record r { stage = p.0 }))
part_begun number r (Err fault) = Err (fault_at number fault)

abbrev pub part_of_word : ℕ → Reading → Option PartWord → List ℕ → Result Reading ScenarioFault
part_of_word number r None rest = Err (faults.BadLine number causes.Form)
part_of_word number r (Some word) rest = part_begun number r (part_read r.scenario r.stage word rest)

abbrev pub part_from : ℕ → Reading → Option (List ℕ × List ℕ) → Result Reading ScenarioFault
part_from number r None = Err (faults.BadLine number causes.Form)
part_from number r (Some p) = part_of_word number r (part_word_of p.0) p.1

unfoldable pub part_line_read : ℕ → List ℕ → Reading → Result Reading ScenarioFault
part_line_read number line r = part_from number r (first_word line)

unfoldable pub outside_read : ℕ → List ℕ → Reading → Result Reading ScenarioFault
outside_read number line r = if is_skipped line then Ok r else part_line_read number line r

-- ---- lines of sections, scripts and steps, and their ends

abbrev pub with_section : Reading → Section → Result Reading ScenarioFault
with_section r section = Ok (record r { scenario = record r.scenario { sections = r.scenario.sections ++ section ∷ [] }; inside = insides.Nothing })

unfoldable pub mqsc_line_read : ℕ → List ℕ → Opened → Reading → Result Reading ScenarioFault
mqsc_line_read number line o r = if is_only (codes "ENDMQSC") line then and_then (mqsc_ended number o) (with_section r) else Ok (record r { inside = insides.Mqsc (text_added line o) })

abbrev pub with_rules : Reading → RulesPart → Result Reading ScenarioFault
with_rules r part = Ok (record r { scenario = record r.scenario { rules = r.scenario.rules ++ part ∷ [] }; inside = insides.Nothing })

unfoldable pub rules_line_read : List ℕ → Opened → Reading → Result Reading ScenarioFault
rules_line_read line o r =
    if is_only (codes "ENDRULES") line
    then and_then (rules_ended (own_name r.scenario.managers o.manager) o) (with_rules r)
    else Ok (record r { inside = insides.Rules (text_added line o) })

abbrev pub line_said : ScriptLine → Script → Reading → Reading
line_said line s r = record r { left = r.left - put_len line; inside = insides.Script (script_added line s) }

abbrev pub with_line : ℕ → Script → Reading → Result ScriptLine LineFault → Result Reading ScenarioFault
with_line number s r (Ok line) = Ok (line_said line s r)
with_line number s r (Err fault) = Err (fault_at number fault)

abbrev pub script_closed : Script → Reading → Reading
script_closed s r = record r { scenario = record r.scenario { scripts = r.scenario.scripts ++ s.part ∷ [] }; inside = insides.Nothing }

unfoldable pub script_line_read : ℕ → List ℕ → Script → Reading → Result Reading ScenarioFault
script_line_read number line s r =
    if is_only (codes "ENDSCRIPT") line
    then Ok (script_closed s r)
    else with_line number s r (script_read r.left line s)

unfoldable pub skipped_or_script : ℕ → List ℕ → Script → Reading → Result Reading ScenarioFault
skipped_or_script number line s r = if is_skipped line then Ok (record r { inside = insides.Script s }) else script_line_read number line s r

-- 3,000 steps
abbrev pub step_room : ℕ → Result (Unit {0}) LineFault
step_room count = if nat_lt count 3000 then Ok tt else Err (line_faults.Limit limits.Steps)

unfoldable pub step_read : Scenario → List ℕ → Result (Unit {0} × Step) LineFault
step_read s line = both (step_room (length s.steps)) (step_line s line)

abbrev pub step_done : Step → Reading → Reading
step_done step r = record r { scenario = record r.scenario { steps = r.scenario.steps ++ step ∷ [] }; inside = insides.Steps }

abbrev pub with_step : ℕ → Reading → Result (Unit {0} × Step) LineFault → Result Reading ScenarioFault
with_step number r (Ok p) = Ok (step_done p.1 r)
with_step number r (Err fault) = Err (fault_at number fault)

unfoldable pub step_line_read : ℕ → List ℕ → Reading → Result Reading ScenarioFault
step_line_read number line r = if is_only (codes "ENDSTEPS") line then Ok (record r { inside = insides.Nothing }) else with_step number r (step_read r.scenario line)

unfoldable pub skipped_or_step : ℕ → List ℕ → Reading → Result Reading ScenarioFault
skipped_or_step number line r = if is_skipped line then Ok (record r { inside = insides.Steps }) else step_line_read number line r

-- ---- a line, wherever it stands

abbrev pub within : ℕ → List ℕ → Reading → Inside → Result Reading ScenarioFault
within number line r insides.Nothing = outside_read number line r
within number line r (insides.Mqsc o) = mqsc_line_read number line o r
within number line r (insides.Rules o) = rules_line_read line o r
within number line r (insides.Script s) = skipped_or_script number line s r
within number line r insides.Steps = skipped_or_step number line r

abbrev pub inside_read : ℕ → List ℕ → Reading → Result Reading ScenarioFault
inside_read number line r = within number line (record r { inside = insides.Nothing }) r.inside

-- the fault of a section that no line ends
unfoldable pub section_cut : Inside → Scenario → Result (Unit {0}) ScenarioFault
section_cut (insides.Mqsc o) s = mqsc_cut o
section_cut (insides.Rules o) s = rules_cut (own_name s.managers o.manager) o
section_cut insides.Nothing s = Ok tt
section_cut (insides.Script script) s = Ok tt
section_cut insides.Steps s = Ok tt

abbrev pub else_fault : {A : Type 0} → Result (Unit {0}) ScenarioFault → ScenarioFault → Result A ScenarioFault
else_fault (Ok done) fault = Err fault
else_fault (Err own) fault = Err own

-- one more line: 40,000 at most
unfoldable pub line_read : List ℕ → Reading → Result Reading ScenarioFault
line_read line r = if nat_le 40000 r.lines then else_fault (section_cut r.inside r.scenario) (faults.Limit 40001 limits.Lines) else inside_read (r.lines + 1) line (record r { lines = r.lines + 1 })

abbrev pub lines_read : List (List ℕ) → Reading → Result Reading ScenarioFault
lines_read [] r = Ok r
lines_read (line ∷ lines) r = and_then (line_read line r) (lines_read lines)

abbrev pub is_outside : Inside → Bool
is_outside insides.Nothing = true
is_outside _ = false

abbrev pub are_steps : Stage → Bool
are_steps stages.Steps = true
are_steps _ = false

abbrev pub is_whole : Reading → Bool
is_whole r = are_steps r.stage && is_outside r.inside

-- the scenario that was read, where its steps have ended; else the line after the last is at fault
abbrev pub ended : Reading → Result Scenario ScenarioFault
ended r = if is_whole r then Ok r.scenario else else_fault (section_cut r.inside r.scenario) (faults.BadLine (line_in r.lines 1) causes.Ending)

-- the scenario that a text is, or the fault of its first line that has one
unfoldable pub scenario_of : List ℕ → Result Scenario ScenarioFault
scenario_of text = and_then (lines_read (lines_of text) nothing_read) ended
