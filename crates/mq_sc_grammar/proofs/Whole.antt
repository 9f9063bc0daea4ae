-- A whole text and its commands, or why it is none of commands, both ways.
use Rattle.std.proofs.Common.{◌≡◌, ℕ, Bool, true, List, ◌∷◌, ◌++◌, Result, refl, sym, ap, subst, ◌∙◌, inl, inr}
use Rattle.std.specs.Prelude.{◌⊎◌}
use Rattle.mq_text.specs.Lines.{lines_of}
use Rattle.mq_sc_lex.specs.declared.joining.Mark.{Mark}
use Rattle.mq_sc_lex.specs.declared.joining.Joined.{Joined}
use Rattle.mq_sc_lex.specs.declared.joining.Ending.{Ending}
use Rattle.mq_sc_lex.specs.declared.joining.Ending.TheVariants.{Whole, Plus, Minus}
use Rattle.mq_sc_lex.specs.declared.token.Line.{Line}
use Rattle.mq_sc_lex.specs.declared.fault.LexFault.{LexFault}
use Rattle.mq_sc_lex.specs.declared.fault.LexFault.TheVariants.{OpenQuote, OpenContinuation, NoMemory}
use Rattle.mq_sc_lex.specs.Joining.{is_open, joined_of}
use Rattle.mq_sc_lex.specs.Commands.{commands_of_lines, unless_open, commands_of}
use Rattle.mq_sc_grammar.specs.Written.{AreOfLines}
use Rattle.mq_sc_grammar.specs.Texts.{AreLinesOf, IsCommands}
use Rattle.mq_sc_grammar.specs.TextFaults.{IsTextFault}
use Rattle.mq_sc_grammar.proofs.Joins.{joined_read, made}
use Rattle.mq_sc_grammar.proofs.LineReads.{ok_lines, err_lines, lines_read, opens_read, lines_either}

-- ---- what is written is read

joins_read : (text : List ℕ) (last : Ending) (joined : List (List Mark)) (r : Result (List Line) LexFault) → AreLinesOf text last joined → commands_of_lines joined ≡ r → commands_of text ≡ unless_open (is_open last) r
unfolding commands_of joined_of
joins_read text last joined r are e = ap (λ (j : Joined). unless_open j.unfinished (commands_of_lines j.lines)) (joined_read (lines_of text) Whole 1 0 last joined are) ∙ ap (unless_open (is_open last)) e

pub text_read : (text : List ℕ) (lines : List Line) → IsCommands text lines → commands_of text ≡ ok_lines lines
text_read text lines (joined, are, of) = joins_read text Whole joined (ok_lines lines) are (lines_read joined lines of)

pub continued : (last : Ending) → (last ≡ Whole → ⊥) → is_open last ≡ true
continued Whole h = absurd (h refl)
continued Plus h = refl
continued Minus h = refl

pub text_fault_read : (text : List ℕ) (fault : LexFault) → IsTextFault text fault → commands_of text ≡ err_lines fault
text_fault_read text (OpenQuote line) (last, front, marks, later, lines, are, of, left) =
    joins_read text last (front ++ marks ∷ later) (err_lines (OpenQuote line)) are (opens_read front marks later lines line of left)
text_fault_read text OpenContinuation (last, joined, lines, goes_on, are, of) =
    joins_read text last joined (ok_lines lines) are (lines_read joined lines of) ∙ ap (λ (b : Bool). unless_open b (ok_lines lines)) (continued last goes_on)
text_fault_read text NoMemory h = absurd h

-- ---- each text is of commands, or has a fault

abbrev Either : List ℕ → Type 0
Either text = ((lines : List Line) × IsCommands text lines) ⊎ ((fault : LexFault) × IsTextFault text fault)

all_read : (text : List ℕ) (last : Ending) (joined : List (List Mark)) (lines : List Line) → AreLinesOf text last joined → AreOfLines joined lines → Either text
all_read text Whole joined lines are of = inl (lines, (joined, are, of))
all_read text Plus joined lines are of = inr (OpenContinuation, (Plus, joined, lines, (λ e. absurd cc), are, of))
all_read text Minus joined lines are of = inr (OpenContinuation, (Minus, joined, lines, (λ e. absurd cc), are, of))

pub text_either : (text : List ℕ) → Either text
text_either text =
    let m = made (lines_of text) Whole 1 0 in
    elim (lines_either m.lines) [
      | inl a ↦ all_read text m.last m.lines a.0 m.are a.1
      | inr o ↦ inr (OpenQuote o.line, (m.last, o.front, o.marks, o.later, o.lines, subst (AreLinesOf text m.last) o.whole m.are, o.are, o.open_at))
    ]

-- ---- what is read is written

found_by : (text : List ℕ) (lines : List Line) → Either text → commands_of text ≡ ok_lines lines → IsCommands text lines
found_by text lines (inl (others, h)) e =
    let f : ok_lines others ≡ ok_lines lines = sym (text_read text others h) ∙ e in
    let same : others ≡ lines = cc in
    subst (IsCommands text) same h
found_by text lines (inr (fault, h)) e = absurd (let f : err_lines fault ≡ ok_lines lines = sym (text_fault_read text fault h) ∙ e in cc)

pub text_found : (text : List ℕ) (lines : List Line) → commands_of text ≡ ok_lines lines → IsCommands text lines
text_found text lines e = found_by text lines (text_either text) e

fault_by : (text : List ℕ) (fault : LexFault) → Either text → commands_of text ≡ err_lines fault → IsTextFault text fault
fault_by text fault (inl (lines, h)) e = absurd (let f : ok_lines lines ≡ err_lines fault = sym (text_read text lines h) ∙ e in cc)
fault_by text fault (inr (other, h)) e =
    let f : err_lines other ≡ err_lines fault = sym (text_fault_read text other h) ∙ e in
    let same : other ≡ fault = cc in
    subst (IsTextFault text) same h

pub text_fault_found : (text : List ℕ) (fault : LexFault) → commands_of text ≡ err_lines fault → IsTextFault text fault
text_fault_found text fault e = fault_by text fault (text_either text) e

-- ---- one answer

pub one_text : (text : List ℕ) (lines others : List Line) → IsCommands text lines → IsCommands text others → lines ≡ others
one_text text lines others p q =
    let same : ok_lines lines ≡ ok_lines others = sym (text_read text lines p) ∙ text_read text others q in
    cc

pub never_both_of_text : (text : List ℕ) (lines : List Line) (fault : LexFault) → IsCommands text lines → IsTextFault text fault → ⊥
never_both_of_text text lines fault p q = absurd (let f : ok_lines lines ≡ err_lines fault = sym (text_read text lines p) ∙ text_fault_read text fault q in cc)

pub one_text_fault : (text : List ℕ) (fault other : LexFault) → IsTextFault text fault → IsTextFault text other → fault ≡ other
one_text_fault text fault other p q =
    let same : err_lines fault ≡ err_lines other = sym (text_fault_read text fault p) ∙ text_fault_read text other q in
    cc
