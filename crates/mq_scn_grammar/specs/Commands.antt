-- One MQSC command alone: the command that a text is, and why a text is none.
use Rattle.std.specs.Prelude.{◌≡◌, ◌⊎◌, ℕ, List, [], ◌∷◌}
use Rattle.mq_sc_lex.specs.declared.token.Line.{Line}
use Rattle.mq_sc_lex.specs.declared.fault.LexFault.{LexFault}
use Rattle.mq_sc_parse.specs.declared.command.Command.{Command}
use Rattle.mq_sc_parse.specs.declared.fault.ScFault.{ScFault}
use Rattle.mq_sc_grammar.specs.Texts.{IsCommands}
use Rattle.mq_sc_grammar.specs.TextFaults.{IsTextFault}
use Rattle.mq_sc_grammar.specs.Spelling.{kinds_of}
use Rattle.mq_sc_grammar.specs.Commands.{IsCommand}
use Rattle.mq_sc_grammar.specs.Faults.{IsFault}
use Rattle.mq_scn_lines.specs.declared.fault.LineFault.{LineFault}
use Rattle.mq_scn_lines.specs.declared.fault.LineFault.TheVariants as faults
use Rattle.mq_scn_script.specs.Commands.{fault_of_text, fault_of_line}

-- the text is of one line of commands, whose tokens are those of this command
abbrev pub IsOneCommand : (text : List ℕ) → Command → Type 0
IsOneCommand text command = (line : Line) × IsCommands text (line ∷ []) × IsCommand (kinds_of line.tokens) command

abbrev pub IsOne : List Line → Type 0
IsOne [] = ⊥
IsOne (line ∷ []) = Unit {0}
IsOne (line ∷ other ∷ lines) = ⊥

-- A quote is open, or the text goes on; it is of no line or of more; or its line is no command.
abbrev pub HasCommandFault : (text : List ℕ) → LineFault → Type 0
HasCommandFault text f =
    ((fault : LexFault) × IsTextFault text fault × (f ≡ fault_of_text fault))
    ⊎ (((lines : List Line) × IsCommands text lines × (IsOne lines → ⊥) × (f ≡ faults.Form)) ⊎ ((line : Line) × (fault : ScFault) × IsCommands text (line ∷ []) × IsFault line fault × (f ≡ fault_of_line fault)))
