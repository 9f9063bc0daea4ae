-- The grammar of rules tables: the table that a text is, or the first line at fault.
use Rattle.std.specs.Prelude.{ℕ, ◌==◌, ◌&&◌, not, Bool, true, false, List, [], ◌∷◌, ◌++◌, length, if◌then◌else◌, Result, Ok, Err}
use Rattle.std.specs.List.{list_any}
use Rattle.mq_text.specs.Lines.{lines_of}
use Rattle.mq_sc_lex.specs.declared.joining.Mark.{Mark}
use Rattle.mq_sc_lex.specs.declared.token.Line.{Line}
use Rattle.mq_sc_lex.specs.declared.fault.LexFault.{LexFault}
use Rattle.mq_sc_lex.specs.declared.fault.LexFault.TheVariants as lexing
use Rattle.mq_sc_lex.specs.Joining.{joined_of}
use Rattle.mq_sc_lex.specs.Tokens.{commands_of_marks}
use Rattle.mq_rules.specs.declared.rule.Rule.{Rule}
use Rattle.mq_rules.specs.declared.rule.Table.{Table}
use Rattle.mq_rules_text.specs.declared.fault.Flaw.{Flaw}
use Rattle.mq_rules_text.specs.declared.fault.RulesFault.{RulesFault}
use Rattle.mq_rules_text.specs.declared.fault.RulesFault.TheVariants as faults
use Rattle.mq_rules_text.specs.declared.pairs.Pair.{Pair}
use Rattle.mq_rules_text.specs.declared.control.Control.{Control}
use Rattle.mq_rules_text.specs.declared.reading.Reading.{Reading}
use Rattle.mq_rules_text.specs.Faults.{and_then, at_line}
use Rattle.mq_rules_text.specs.Pairs.{pairs_of, controls}
use Rattle.mq_rules_text.specs.Entries.{rule_of, control_of, default_control}

abbrev pub with_control : Table → Result Control Flaw → Result Table Flaw
with_control t (Ok c) = Ok (record t { input_q = c.input_q; retry_interval = c.retry_interval; wait = c.wait })
with_control t (Err flaw) = Err flaw

abbrev pub with_rule : Table → Result Rule Flaw → Result Table Flaw
with_rule t (Ok rule) = Ok (record t { rules = t.rules ++ rule ∷ [] })
with_rule t (Err flaw) = Err flaw

-- the first entry is the control entry where it has one of its keywords; every other entry says a rule
abbrev pub pairs_said : List ℕ → Reading → List Pair → Result Table Flaw
pairs_said own s pairs =
    if not s.begun && list_any controls pairs then with_control s.table (control_of own pairs) else with_rule s.table (rule_of pairs)

unfoldable pub entry_said : List ℕ → Reading → Line → Result Table Flaw
entry_said own s line = and_then (pairs_of line.tokens) (pairs_said own s)

abbrev pub begun_with : Result Table RulesFault → Result Reading RulesFault
begun_with (Ok table) = Ok (record { begun = true; table = table })
begun_with (Err fault) = Err fault

-- one more entry
abbrev pub entry_read : List ℕ → Line → Reading → Result Reading RulesFault
entry_read own line s = begun_with (at_line line.number (entry_said own s line))

abbrev pub entries_read : List ℕ → List Line → Reading → Result Reading RulesFault
entries_read own [] s = Ok s
entries_read own (line ∷ lines) s = and_then (entry_read own line s) (entries_read own lines)

-- an open quote is told by its line; a line that is whole has no open end
abbrev pub rules_fault : LexFault → RulesFault
rules_fault (lexing.OpenQuote line) = faults.BadLine line
rules_fault lexing.OpenContinuation = faults.BadLine 0
rules_fault lexing.NoMemory = faults.NoMemory

abbrev pub entries_in : List ℕ → Result (List Line) LexFault → Reading → Result Reading RulesFault
entries_in own (Ok lines) s = entries_read own lines s
entries_in own (Err fault) s = Err (rules_fault fault)

-- the entries of one more joined line
unfoldable pub line_read : List ℕ → List Mark → Reading → Result Reading RulesFault
line_read own marks s = entries_in own (commands_of_marks marks) s

-- where a line begins; one without bytes is the last of the text
abbrev pub first_line : ℕ → List Mark → ℕ
first_line last [] = last
first_line last (m ∷ ms) = m.line

-- the lines one by one; the last one is at fault where it is to go on
abbrev pub lines_read : List ℕ → Bool → ℕ → List (List Mark) → Reading → Result Reading RulesFault
lines_read own unfinished last [] s = Ok s
lines_read own unfinished last (marks ∷ lines) s =
    if unfinished && length lines == 0 then Err (faults.BadLine (first_line last marks)) else and_then (line_read own marks s) (lines_read own unfinished last lines)

-- a table of which nothing is said
abbrev pub nothing_read : Reading
nothing_read = record { begun = false; table = record { input_q = default_control.input_q; retry_interval = default_control.retry_interval; wait = default_control.wait; rules = [] } }

abbrev pub table_read : Result Reading RulesFault → Result Table RulesFault
table_read (Ok s) = Ok s.table
table_read (Err fault) = Err fault

-- the table that a text is, for a manager of that name, or the fault of the first line that has one
unfoldable pub table_of : List ℕ → List ℕ → Result Table RulesFault
table_of own text = table_read (lines_read own (joined_of text).unfinished (length (lines_of text)) (joined_of text).lines nothing_read)
