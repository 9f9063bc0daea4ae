-- What an MQSC section says, and why it is none, with the number of the line in the scenario.
use Rattle.std.specs.Prelude.{◌≡◌, ◌⊎◌, ℕ, ◌<◌, List, [], ◌∷◌, ◌++◌}
use Rattle.mq_sc_lex.specs.declared.joining.Mark.{Mark}
use Rattle.mq_sc_lex.specs.declared.joining.Ending.{Ending}
use Rattle.mq_sc_lex.specs.declared.joining.Ending.TheVariants.{Whole}
use Rattle.mq_sc_lex.specs.declared.token.Line.{Line}
use Rattle.mq_sc_parse.specs.declared.command.Command.{Command}
use Rattle.mq_sc_parse.specs.declared.fault.ScFault.{ScFault}
use Rattle.mq_sc_grammar.specs.Spelling.{kinds_of}
use Rattle.mq_sc_grammar.specs.Written.{AreOfLine, AreOfLines}
use Rattle.mq_sc_grammar.specs.Texts.{AreLinesOf, IsCommands}
use Rattle.mq_sc_grammar.specs.TextFaults.{LeavesOpen}
use Rattle.mq_sc_grammar.specs.Commands.{IsCommand}
use Rattle.mq_sc_grammar.specs.Faults.{IsFault}
use Rattle.mq_history.specs.declared.scenario.Section.{Section}
use Rattle.mq_scn_lines.specs.declared.fault.MqscFault.TheVariants as mqsc
use Rattle.mq_scn_text.specs.declared.fault.Cause.TheVariants as causes
use Rattle.mq_scn_text.specs.declared.fault.ScenarioFault.{ScenarioFault}
use Rattle.mq_scn_text.specs.declared.fault.ScenarioFault.TheVariants as faults
use Rattle.mq_scn_text.specs.declared.sections.Opened.{Opened}
use Rattle.mq_scn_text.specs.Sections.{line_in, command_fault}

-- the tokens of each line are those of a command
abbrev pub AreCommands : List Line → List Command → Type 0
AreCommands [] commands = commands ≡ []
AreCommands (line ∷ lines) commands = (c : Command) × (later : List Command) × IsCommand (kinds_of line.tokens) c × AreCommands lines later × (commands ≡ c ∷ later)

-- the section that is open says this, up to its end
abbrev pub IsSection : Opened → Section → Type 0
IsSection o section = (lines : List Line) × (commands : List Command) × IsCommands o.text lines × AreCommands lines commands × (section ≡ record { label = o.label; manager = o.manager; commands = commands })

-- ---- faults

-- lines, joined where they go on, are of commands alone
abbrev pub AreGood : List (List Mark) → Type 0
AreGood joined = (lines : List Line) × (commands : List Command) × AreOfLines joined lines × AreCommands lines commands

-- A joined line, with its place behind so many lines of the scenario: it leaves a quote open, or one of its commands is none.
abbrev pub HasOwnFault : (first : ℕ) → List Mark → ScenarioFault → Type 0
HasOwnFault first marks fault =
    ((line : ℕ) × LeavesOpen marks line × (fault ≡ faults.BadLine (line_in first line) (causes.Mqsc mqsc.OpenQuote)))
    ⊎ ((front : List Line) × (line : Line) × (later : List Line) × (commands : List Command) × (own : ScFault)
    × AreOfLine marks (front ++ line ∷ later) × AreCommands front commands × IsFault line own × (fault ≡ command_fault first own))

-- the lines in front of it are of commands alone
pub record HasBadCommand (first : ℕ) (text : List ℕ) (fault : ScenarioFault) : Type 0 where
  pub last : Ending
  pub front : List (List Mark)
  pub marks : List Mark
  pub later : List (List Mark)
  pub are : AreLinesOf text last (front ++ marks ∷ later)
  pub good : AreGood front
  pub own : HasOwnFault first marks fault

-- all lines are of commands alone, and the last one is to go on
abbrev pub IsUnfinished : List ℕ → Type 0
IsUnfinished text = (last : Ending) × (joined : List (List Mark)) × (last ≡ Whole → ⊥) × AreLinesOf text last joined × AreGood joined

-- the fault of a section that ends with the line of this number
abbrev pub HasSectionFault : (number : ℕ) → Opened → ScenarioFault → Type 0
HasSectionFault number o fault = HasBadCommand o.first o.text fault ⊎ (IsUnfinished o.text × (fault ≡ faults.BadLine number (causes.Mqsc mqsc.OpenContinuation)))

-- ---- a section that no line ends

-- the last line goes on where the text ends, it begins on the physical line of this number, and no quote is open in it
abbrev pub GoesOnFrom : List ℕ → ℕ → Type 0
GoesOnFrom text from = (last : Ending) × (front : List (List Mark)) × (m : Mark) × (ms : List Mark) × (lines : List Line)
    × (last ≡ Whole → ⊥) × AreLinesOf text last (front ++ (m ∷ ms) ∷ []) × AreOfLine (m ∷ ms) lines × (from ≡ m.line)

-- a fault whose line stands before the line of this number
abbrev pub StandsBefore : ScenarioFault → ℕ → Type 0
StandsBefore (faults.BadLine line cause) number = line < number
StandsBefore _ number = Unit {0}

-- it has a fault of its own, but none in a last line that goes on
abbrev pub HasCutFault : Opened → ScenarioFault → Type 0
HasCutFault o fault = HasBadCommand o.first o.text fault × ((from : ℕ) → GoesOnFrom o.text from → StandsBefore fault (line_in o.first from))
