-- One command alone, both ways.
use Rattle.std.proofs.Common.{◌≡◌, ℕ, List, [], ◌∷◌, Result, Ok, Err, refl, sym, ap, ◌∙◌, inl, inr}
use Rattle.mq_sc_lex.specs.declared.token.Line.{Line}
use Rattle.mq_sc_lex.specs.declared.fault.LexFault.{LexFault}
use Rattle.mq_sc_lex.specs.Commands.{commands_of}
use Rattle.mq_sc_parse.specs.declared.command.Command.{Command}
use Rattle.mq_sc_parse.specs.declared.fault.ScFault.{ScFault}
use Rattle.mq_sc_parse.specs.Parsing.{parse_of}
use Rattle.mq_sc_grammar.proofs.Whole.{text_read, text_found, text_fault_read, text_fault_found}
use Rattle.mq_sc_grammar.proofs.Readings.{command_read, command_found as line_found}
use Rattle.mq_sc_grammar.proofs.Faulted.{fault_read as line_fault_read, fault_found as line_fault_found}
use Rattle.mq_scn_lines.specs.declared.fault.LineFault.{LineFault}
use Rattle.mq_scn_lines.specs.declared.fault.LineFault.TheVariants as faults
use Rattle.mq_scn_script.specs.Commands.{fault_of_text, fault_of_line, command_or_fault, one_command, command_of_lines, command_in}
use Rattle.mq_scn_grammar.specs.Commands.{IsOneCommand, IsOne, HasCommandFault}

abbrev ok_at : Command → Result Command LineFault
ok_at command = Ok command

abbrev err_at : LineFault → Result Command LineFault
err_at f = Err f

-- ---- what is written is read

pub command_is : (text : List ℕ) (command : Command) → IsOneCommand text command → command_in text ≡ Ok command
command_is text command (line, are, is) = ap command_of_lines (text_read text (line ∷ []) are) ∙ ap command_or_fault (command_read line command is)

not_one : (lines : List Line) → (IsOne lines → ⊥) → one_command lines ≡ err_at faults.Form
not_one [] h = refl
not_one (line ∷ []) h = absurd (h tt)
not_one (line ∷ other ∷ lines) h = refl

pub refusal_is : (text : List ℕ) (f : LineFault) → HasCommandFault text f → command_in text ≡ Err f
refusal_is text f (inl (fault, is, e)) = ap command_of_lines (text_fault_read text fault is) ∙ ap err_at (sym e)
refusal_is text f (inr (inl (lines, are, never, e))) = ap command_of_lines (text_read text lines are) ∙ not_one lines never ∙ ap err_at (sym e)
refusal_is text f (inr (inr (line, fault, are, is, e))) = ap command_of_lines (text_read text (line ∷ []) are) ∙ ap command_or_fault (line_fault_read line fault is) ∙ ap err_at (sym e)

-- ---- what is read is written

line_of : (text : List ℕ) (command : Command) (line : Line) → commands_of text ≡ Ok (line ∷ []) → (r : Result Command ScFault) → parse_of line ≡ r → command_or_fault r ≡ ok_at command → IsOneCommand text command
line_of text command line e (Ok c) f g =
    let same : c ≡ command = cc in
    (line, text_found text (line ∷ []) e, line_found line command (f ∙ ap (λ (d : Command). Ok d) same))
line_of text command line e (Err fault) f g = absurd cc

found_by : (text : List ℕ) (command : Command) (r : Result (List Line) LexFault) → commands_of text ≡ r → command_of_lines r ≡ ok_at command → IsOneCommand text command
found_by text command (Ok []) e g = absurd cc
found_by text command (Ok (line ∷ [])) e g = line_of text command line e (parse_of line) refl g
found_by text command (Ok (line ∷ other ∷ lines)) e g = absurd cc
found_by text command (Err fault) e g = absurd cc

pub command_found : (text : List ℕ) (command : Command) → command_in text ≡ Ok command → IsOneCommand text command
command_found text command g = found_by text command (commands_of text) refl g

err_same : (f g : LineFault) → err_at f ≡ err_at g → f ≡ g
err_same f g e = cc

refused_line : (text : List ℕ) (f : LineFault) (line : Line) → commands_of text ≡ Ok (line ∷ []) → (r : Result Command ScFault) → parse_of line ≡ r → command_or_fault r ≡ err_at f → HasCommandFault text f
refused_line text f line e (Ok c) p g = absurd cc
refused_line text f line e (Err fault) p g = inr (inr (line, fault, text_found text (line ∷ []) e, line_fault_found line fault p, sym (err_same (fault_of_line fault) f g)))

refused_by : (text : List ℕ) (f : LineFault) (r : Result (List Line) LexFault) → commands_of text ≡ r → command_of_lines r ≡ err_at f → HasCommandFault text f
refused_by text f (Ok []) e g = inr (inl ([], text_found text [] e, (λ h. h), sym (err_same faults.Form f g)))
refused_by text f (Ok (line ∷ [])) e g = refused_line text f line e (parse_of line) refl g
refused_by text f (Ok (line ∷ other ∷ lines)) e g = inr (inl (line ∷ other ∷ lines, text_found text (line ∷ other ∷ lines) e, (λ h. h), sym (err_same faults.Form f g)))
refused_by text f (Err fault) e g = inl (fault, text_fault_found text fault e, sym (err_same (fault_of_text fault) f g))

pub refusal_found : (text : List ℕ) (f : LineFault) → command_in text ≡ Err f → HasCommandFault text f
refusal_found text f g = refused_by text f (commands_of text) refl g
