-- One MQSC command behind a word.
use Rattle.std.specs.Prelude.{ℕ, List, [], ◌∷◌, Result, Ok, Err}
use Rattle.mq_sc_lex.specs.declared.token.Line.{Line}
use Rattle.mq_sc_lex.specs.declared.fault.LexFault.{LexFault}
use Rattle.mq_sc_lex.specs.declared.fault.LexFault.TheVariants as lexing
use Rattle.mq_sc_lex.specs.Commands.{commands_of}
use Rattle.mq_sc_parse.specs.declared.command.Command.{Command}
use Rattle.mq_sc_parse.specs.declared.fault.ScFault.{ScFault}
use Rattle.mq_sc_parse.specs.declared.fault.ScFault.TheVariants as parsing
use Rattle.mq_sc_parse.specs.Parsing.{parse_of}
use Rattle.mq_scn_lines.specs.declared.fault.LineFault.{LineFault}
use Rattle.mq_scn_lines.specs.declared.fault.LineFault.TheVariants as faults
use Rattle.mq_scn_lines.specs.declared.fault.MqscFault.TheVariants as mqsc

abbrev pub fault_of_text : LexFault → LineFault
fault_of_text (lexing.OpenQuote line) = faults.Mqsc mqsc.OpenQuote
fault_of_text lexing.OpenContinuation = faults.Mqsc mqsc.OpenContinuation
fault_of_text lexing.NoMemory = faults.NoMemory

abbrev pub fault_of_line : ScFault → LineFault
fault_of_line parsing.NoMemory = faults.NoMemory
fault_of_line fault = faults.Mqsc (mqsc.Command fault)

abbrev pub command_or_fault : Result Command ScFault → Result Command LineFault
command_or_fault (Ok command) = Ok command
command_or_fault (Err fault) = Err (fault_of_line fault)

-- one line of commands, and no more
abbrev pub one_command : List Line → Result Command LineFault
one_command [] = Err faults.Form
one_command (line ∷ []) = command_or_fault (parse_of line)
one_command (line ∷ other ∷ lines) = Err faults.Form

abbrev pub command_of_lines : Result (List Line) LexFault → Result Command LineFault
command_of_lines (Ok lines) = one_command lines
command_of_lines (Err fault) = Err (fault_of_text fault)

-- the one command that a text is
abbrev pub command_in : List ℕ → Result Command LineFault
command_in text = command_of_lines (commands_of text)
