-- Joined lines one by one: each is of commands or leaves a quote open, and what a text's lines are, both ways.
use Rattle.std.proofs.Common.{◌≡◌, ◌⊎◌, ℕ, List, [], ◌∷◌, ◌++◌, Result, Ok, Err, refl, sym, ap, subst, ◌∙◌, append-nil, inl, inr}
use Rattle.mq_text.specs.Lines.{lines_of}
use Rattle.mq_sc_lex.specs.declared.joining.Mark.{Mark}
use Rattle.mq_sc_lex.specs.declared.joining.Ending.{Ending}
use Rattle.mq_sc_lex.specs.declared.joining.Ending.TheVariants.{Whole}
use Rattle.mq_sc_lex.specs.declared.token.Line.{Line}
use Rattle.mq_sc_lex.specs.declared.fault.LexFault.{LexFault}
use Rattle.mq_sc_lex.specs.declared.fault.LexFault.TheVariants.{OpenQuote}
use Rattle.mq_sc_lex.specs.Joining.{joined_of}
use Rattle.mq_sc_lex.specs.Tokens.{commands_of_marks}
use Rattle.mq_sc_lex.specs.Commands.{then_lines}
use Rattle.mq_sc_grammar.specs.Written.{AreOfLine, AreOfLines}
use Rattle.mq_sc_grammar.specs.Texts.{AreLinesOf}
use Rattle.mq_sc_grammar.specs.TextFaults.{LeavesOpen}
use Rattle.mq_sc_grammar.proofs.Joins.{done, joined_read, made}
use Rattle.mq_sc_grammar.proofs.LineReads.{ok_lines, err_lines, lines_read, opens_read, lines_either, OpenLines}
pub use Rattle.mq_sc_grammar.proofs.Whole.{continued as goes_on}

-- ---- one line

alone_ok : (r : Result (List Line) LexFault) (lines : List Line) → then_lines r (ok_lines []) ≡ ok_lines lines → r ≡ ok_lines lines
alone_ok (Ok first) lines e =
    let same : first ++ [] ≡ lines = cc in
    ap ok_lines (sym (append-nil first) ∙ same)
alone_ok (Err fault) lines e = absurd cc

alone_err : (r : Result (List Line) LexFault) (fault : LexFault) → then_lines r (ok_lines []) ≡ err_lines fault → r ≡ err_lines fault
alone_err (Ok first) fault e = absurd cc
alone_err (Err own) fault e = cc

pub mark_read : (marks : List Mark) (lines : List Line) → AreOfLine marks lines → commands_of_marks marks ≡ ok_lines lines
mark_read marks lines h = alone_ok (commands_of_marks marks) lines (lines_read (marks ∷ []) lines (lines, [], h, refl, sym (append-nil lines)))

pub open_read : (marks : List Mark) (line : ℕ) → LeavesOpen marks line → commands_of_marks marks ≡ err_lines (OpenQuote line)
open_read marks line h = alone_err (commands_of_marks marks) (OpenQuote line) (opens_read [] marks [] [] line refl h)

open_one : (marks : List Mark) (front : List (List Mark)) (one : List Mark) (later : List (List Mark)) (line : ℕ) → marks ∷ [] ≡ front ++ one ∷ later → LeavesOpen one line → LeavesOpen marks line
open_one marks [] one later line e h = let same : one ≡ marks = cc in subst (λ (m : List Mark). LeavesOpen m line) same h
open_one marks (m ∷ []) one later line e h = absurd cc
open_one marks (m ∷ n ∷ front) one later line e h = absurd cc

either_by : (marks : List Mark) → ((lines : List Line) × AreOfLines (marks ∷ []) lines) ⊎ OpenLines (marks ∷ []) → ((lines : List Line) × AreOfLine marks lines) ⊎ ((line : ℕ) × LeavesOpen marks line)
either_by marks (inl (lines, (first, later, of, more, e))) = inl (first, of)
either_by marks (inr o) = inr (o.line, open_one marks o.front o.marks o.later o.line o.whole o.open_at)

pub mark_either : (marks : List Mark) → ((lines : List Line) × AreOfLine marks lines) ⊎ ((line : ℕ) × LeavesOpen marks line)
mark_either marks = either_by marks (lines_either (marks ∷ []))

-- ---- the lines of a text

pub lines_joined : (text : List ℕ) (last : Ending) (joined : List (List Mark)) → AreLinesOf text last joined → joined_of text ≡ done last joined
unfolding joined_of
lines_joined text last joined are = joined_read (lines_of text) Whole 1 0 last joined are

pub record Joins (text : List ℕ) : Type 0 where
  pub last : Ending
  pub joined : List (List Mark)
  pub are : AreLinesOf text last joined

pub some_joined : (text : List ℕ) → Joins text
some_joined text = let m = made (lines_of text) Whole 1 0 in record { last = m.last; joined = m.lines; are = m.are }
