-- The lines of MQSC and RULES sections.
use Rattle.std.specs.Prelude.{ℕ, ◌+◌, ◌-◌, nat_lt, Bool, List, [], ◌∷◌, ◌++◌, length, slice_get, if◌then◌else◌, Option, Some, None, Result, Ok, Err}
use Rattle.mq_sc_lex.specs.declared.joining.Mark.{Mark}
use Rattle.mq_sc_lex.specs.declared.joining.Joined.{Joined}
use Rattle.mq_sc_lex.specs.declared.token.Line.{Line}
use Rattle.mq_sc_lex.specs.declared.fault.LexFault.{LexFault}
use Rattle.mq_sc_lex.specs.declared.fault.LexFault.TheVariants as lexing
use Rattle.mq_sc_lex.specs.Joining.{joined_of}
use Rattle.mq_sc_lex.specs.Tokens.{commands_of_marks}
use Rattle.mq_sc_parse.specs.declared.command.Command.{Command}
use Rattle.mq_sc_parse.specs.declared.fault.ScFault.{ScFault}
use Rattle.mq_sc_parse.specs.declared.fault.ScFault.TheVariants as parsing
use Rattle.mq_sc_parse.specs.Parsing.{parse_of}
use Rattle.mq_rules.specs.declared.rule.Table.{Table}
use Rattle.mq_rules_text.specs.declared.fault.RulesFault.{RulesFault}
use Rattle.mq_rules_text.specs.declared.fault.RulesFault.TheVariants as tables
use Rattle.mq_rules_text.specs.Tables.{table_of}
use Rattle.mq_history.specs.declared.scenario.Section.{Section}
use Rattle.mq_history.specs.declared.scenario.RulesPart.{RulesPart}
use Rattle.mq_scn_lines.specs.declared.fault.MqscFault.TheVariants as mqsc
use Rattle.mq_scn_text.specs.declared.fault.Cause.TheVariants as causes
use Rattle.mq_scn_text.specs.declared.fault.ScenarioFault.{ScenarioFault}
use Rattle.mq_scn_text.specs.declared.fault.ScenarioFault.TheVariants as faults
use Rattle.mq_scn_text.specs.declared.sections.Opened.{Opened}
use Rattle.mq_scn_text.specs.declared.sections.SectionRead.{SectionRead}
use Rattle.mq_scn_text.specs.Faults.{and_then}

-- the number in the scenario of a section's line
abbrev pub line_in : ℕ → ℕ → ℕ
line_in first line = if nat_lt (first + line) 4294967295 then first + line else 4294967295

-- ---- faults, told with the scenario's line

abbrev pub command_fault : ℕ → ScFault → ScenarioFault
command_fault first parsing.NoMemory = faults.NoMemory
command_fault first (parsing.UnknownVerb span) = faults.BadLine (line_in first span.line) (causes.Mqsc (mqsc.Command (parsing.UnknownVerb span)))
command_fault first (parsing.UnknownObject span) = faults.BadLine (line_in first span.line) (causes.Mqsc (mqsc.Command (parsing.UnknownObject span)))
command_fault first (parsing.MissingName span) = faults.BadLine (line_in first span.line) (causes.Mqsc (mqsc.Command (parsing.MissingName span)))
command_fault first (parsing.UnknownKeyword span) = faults.BadLine (line_in first span.line) (causes.Mqsc (mqsc.Command (parsing.UnknownKeyword span)))
command_fault first (parsing.Repeated span) = faults.BadLine (line_in first span.line) (causes.Mqsc (mqsc.Command (parsing.Repeated span)))
command_fault first (parsing.BadValue span) = faults.BadLine (line_in first span.line) (causes.Mqsc (mqsc.Command (parsing.BadValue span)))

abbrev pub text_fault : ℕ → LexFault → ScenarioFault
text_fault first lexing.NoMemory = faults.NoMemory
text_fault first (lexing.OpenQuote line) = faults.BadLine (line_in first line) (causes.Mqsc mqsc.OpenQuote)
text_fault first lexing.OpenContinuation = faults.BadLine first (causes.Mqsc mqsc.OpenContinuation)

abbrev pub rules_fault : ℕ → RulesFault → ScenarioFault
rules_fault first tables.NoMemory = faults.NoMemory
rules_fault first (tables.BadLine line) = faults.BadLine (line_in first line) (causes.Rules (tables.BadLine line))
rules_fault first (tables.BadKeyword line) = faults.BadLine (line_in first line) (causes.Rules (tables.BadKeyword line))
rules_fault first (tables.BadValue line) = faults.BadLine (line_in first line) (causes.Rules (tables.BadValue line))
rules_fault first (tables.NoAction line) = faults.BadLine (line_in first line) (causes.Rules (tables.NoAction line))
rules_fault first (tables.FwdqMissing line) = faults.BadLine (line_in first line) (causes.Rules (tables.FwdqMissing line))

-- ---- the commands of a section, or the first line at fault

abbrev pub command_or_fault : ℕ → Result Command ScFault → Result Command ScenarioFault
command_or_fault first (Ok command) = Ok command
command_or_fault first (Err fault) = Err (command_fault first fault)

abbrev pub command_at : ℕ → Line → Result Command ScenarioFault
command_at first line = command_or_fault first (parse_of line)

abbrev pub commands_from : ℕ → List Command → List Line → Result (List Command) ScenarioFault
commands_from first before [] = Ok before
commands_from first before (line ∷ lines) = and_then (command_at first line) (λ command. commands_from first (before ++ command ∷ []) lines)

abbrev pub commands_in : ℕ → List Command → Result (List Line) LexFault → Result (List Command) ScenarioFault
commands_in first before (Ok lines) = commands_from first before lines
commands_in first before (Err fault) = Err (text_fault first fault)

-- a joined line; one that leaves a quote open has no commands
abbrev pub line_read : ℕ → List Command → List Mark → Result (List Command) ScenarioFault
line_read first before marks = commands_in first before (commands_of_marks marks)

abbrev pub joined_from : ℕ → List Command → List (List Mark) → Result (List Command) ScenarioFault
joined_from first before [] = Ok before
joined_from first before (marks ∷ lines) = and_then (line_read first before marks) (λ commands. joined_from first commands lines)

abbrev pub with_end : Bool → Result (List Command) ScenarioFault → Result SectionRead ScenarioFault
with_end unfinished (Ok commands) = Ok (record { commands = commands; unfinished = unfinished })
with_end unfinished (Err fault) = Err fault

-- what the text of an MQSC section says
unfoldable pub section_read : ℕ → List ℕ → Result SectionRead ScenarioFault
section_read first text = with_end (joined_of text).unfinished (joined_from first [] (joined_of text).lines)

-- ---- the ends of sections

-- the section with one more line
abbrev pub text_added : List ℕ → Opened → Opened
text_added line o = record o { text = (o.text ++ line) ++ 10 ∷ [] }

abbrev pub section_of : ℕ → Opened → SectionRead → Result Section ScenarioFault
section_of number o read = if read.unfinished then Err (faults.BadLine number (causes.Mqsc mqsc.OpenContinuation)) else Ok (record { label = o.label; manager = o.manager; commands = read.commands })

-- a section that ends with the line of that number; a line before it that goes on is told there
unfoldable pub mqsc_ended : ℕ → Opened → Result Section ScenarioFault
mqsc_ended number o = and_then (section_read o.first o.text) (section_of number o)

abbrev pub rules_or_fault : Opened → Result Table RulesFault → Result RulesPart ScenarioFault
rules_or_fault o (Ok table) = Ok (record { label = o.label; manager = o.manager; table = table })
rules_or_fault o (Err fault) = Err (rules_fault o.first fault)

unfoldable pub rules_ended : List ℕ → Opened → Result RulesPart ScenarioFault
rules_ended own o = rules_or_fault o (table_of own o.text)

-- ---- sections that no line ends: a last line that goes on is no fault, unless it leaves a quote open

abbrev pub line_unless_open : ℕ → Result (List Line) LexFault → Option ℕ
line_unless_open line (Ok lines) = Some line
line_unless_open line (Err (lexing.OpenQuote quote)) = None
line_unless_open line (Err lexing.OpenContinuation) = Some line
line_unless_open line (Err lexing.NoMemory) = Some line

abbrev pub last_in : List Mark → Option ℕ
last_in [] = None
last_in (m ∷ ms) = line_unless_open m.line (commands_of_marks (m ∷ ms))

abbrev pub last_of : Option (List Mark) → Option ℕ
last_of None = None
last_of (Some marks) = last_in marks

-- the line from which on the last one goes on where the text ends, if it does and no quote is open in it
abbrev pub goes_on_from : Joined → Option ℕ
goes_on_from joined = if joined.unfinished then last_of (slice_get joined.lines (length joined.lines - 1)) else None

-- a fault that stands before that line
abbrev pub before_last : ℕ → Option ℕ → ScenarioFault → Result (Unit {0}) ScenarioFault
before_last first None fault = Err fault
before_last first (Some from) (faults.BadLine line cause) = if nat_lt line (line_in first from) then Err (faults.BadLine line cause) else Ok tt
before_last first (Some from) (faults.Limit line limit) = Err (faults.Limit line limit)
before_last first (Some from) faults.NoMemory = Err faults.NoMemory

abbrev pub section_cut : ℕ → Option ℕ → Result SectionRead ScenarioFault → Result (Unit {0}) ScenarioFault
section_cut first last (Ok read) = Ok tt
section_cut first last (Err fault) = before_last first last fault

-- the fault of an MQSC section that no line ends
unfoldable pub mqsc_cut : Opened → Result (Unit {0}) ScenarioFault
mqsc_cut o = section_cut o.first (goes_on_from (joined_of o.text)) (section_read o.first o.text)

abbrev pub table_cut : ℕ → Option ℕ → Result Table RulesFault → Result (Unit {0}) ScenarioFault
table_cut first last (Ok table) = Ok tt
table_cut first last (Err fault) = before_last first last (rules_fault first fault)

-- the fault of a rules table that no line ends: an empty line behind it lets its last entry go on no further
unfoldable pub rules_cut : List ℕ → Opened → Result (Unit {0}) ScenarioFault
rules_cut own o = table_cut o.first (goes_on_from (joined_of o.text)) (table_of own (o.text ++ 10 ∷ []))
