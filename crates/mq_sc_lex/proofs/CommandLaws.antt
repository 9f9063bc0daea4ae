-- Pieces that make commands one after the other, as the reader meets them.
use Rattle.std.proofs.Common.{◌≡◌, ℕ, zero, suc, ◌+◌, ◌<◌, ◌≤◌, List, [], ◌∷◌, ◌++◌, length, drop, get_or, refl, sym, ap, ◌∙◌, append_assoc, add-one, arith}
use Rattle.std.proofs.Math.Seq.{drop-cons}
use Rattle.std.proofs.lemmas.List.{append-nil}
use Rattle.mq_text.specs.declared.piece.Piece.{Piece}
use Rattle.mq_text.specs.Pieces.{AreSlices}
use Rattle.mq_sc_lex.specs.declared.joining.Mark.{Mark}
use Rattle.mq_sc_lex.specs.declared.token.Span.{Span}
use Rattle.mq_sc_lex.specs.declared.token.Token.{Token}
use Rattle.mq_sc_lex.specs.declared.token.Line.{Line}
use Rattle.mq_sc_lex.specs.declared.tokens.Meaning.{Meaning}
use Rattle.mq_sc_lex.specs.declared.tokens.Meaning.TheVariants as meanings
use Rattle.mq_sc_lex.specs.declared.tokens.Commanding.{Commanding}
use Rattle.std.specs.Prelude.{Result, Ok, Err}
use Rattle.mq_sc_lex.specs.declared.fault.LexFault.{LexFault}
use Rattle.mq_sc_lex.specs.Commands.{behind_lines}
use Rattle.mq_sc_lex.specs.Tokens.{bytes_of, slice_of, span_of, meaning_of, put_meaning, commands_in, numbered, meaning_added}

-- tokens before the first command
abbrev pub onto_command : List Token → List (List Token) → List (List Token)
onto_command tokens [] = tokens ∷ []
onto_command tokens (c ∷ cs) = (tokens ++ c) ∷ cs

-- the lines where these commands follow
abbrev pub goes_on : Commanding → List (List Token) → List Line
goes_on s commands = s.lines ++ numbered (onto_command s.current commands)

numbered_first : (c : List Token) (cs : List (List Token)) → numbered (c ∷ cs) ≡ numbered (c ∷ []) ++ numbered cs
numbered_first [] cs = refl
numbered_first (t ∷ ts) cs = refl

none_before : (commands : List (List Token)) → numbered (onto_command [] commands) ≡ numbered commands
none_before [] = refl
none_before (c ∷ cs) = refl

ends_within : (ps : List Piece) (from len : ℕ) → AreSlices from ps len → from ≤ len
ends_within [] from len h = h
ends_within (p ∷ ps) from len h =
    let rest : p.end ≤ len = ends_within ps p.end len h.2 in
    omega (arith, h.0, h.1)

-- one piece more
pub meaning_more : (m : Meaning) (span : Span) (s : Commanding) (commands : List (List Token)) → goes_on (meaning_added m span s) commands ≡ goes_on s (put_meaning m span commands)
meaning_more (meanings.Token kind) span s [] = refl
meaning_more (meanings.Token kind) span s (c ∷ cs) = ap (λ (ts : List Token). s.lines ++ numbered (ts ∷ cs)) (append_assoc s.current ((record { span = span; kind = kind }) ∷ []) c)
meaning_more meanings.Gap span s commands = refl
meaning_more meanings.End span s commands =
    let one : (s.lines ++ numbered (s.current ∷ [])) ++ numbered (onto_command [] commands) ≡ (s.lines ++ numbered (s.current ∷ [])) ++ numbered commands = ap (λ (ls : List Line). (s.lines ++ numbered (s.current ∷ [])) ++ ls) (none_before commands) in
    let two : (s.lines ++ numbered (s.current ∷ [])) ++ numbered commands ≡ s.lines ++ numbered (s.current ∷ commands) = append_assoc s.lines (numbered (s.current ∷ [])) (numbered commands) ∙ ap (λ (ls : List Line). s.lines ++ ls) (sym (numbered_first s.current commands)) in
    one ∙ two ∙ ap (λ (ts : List Token). s.lines ++ numbered (ts ∷ commands)) (sym (append-nil s.current))

-- a piece of those that lie in a text lies in it
pub slice_at : (ps : List Piece) (from len i : ℕ) (d : Piece) → AreSlices from ps len → i < length ps → ((get_or ps i d).start < (get_or ps i d).end) × ((get_or ps i d).end ≤ len)
slice_at [] from len i d h lt = absurd (omega arith)
slice_at (p ∷ ps) from len zero d h lt = (h.1, ends_within ps p.end len h.2)
slice_at (p ∷ ps) from len (suc i) d h lt = slice_at ps p.end len i d h.2 (omega arith)

-- one piece more of those of a line
pub piece_more : (s : Commanding) (marks : List Mark) (ps : List Piece) (i : ℕ) (d : Piece) (total : List Line) → i < length ps → goes_on s (commands_in marks (drop i ps)) ≡ total
    → goes_on (meaning_added (meaning_of (get_or ps i d).kind (slice_of (bytes_of marks) (get_or ps i d))) (span_of marks (get_or ps i d)) s) (commands_in marks (drop (i + 1) ps)) ≡ total
piece_more s marks ps i d total lt h =
    let next : drop i ps ≡ get_or ps i d ∷ drop (i + 1) ps = rw (add-one, drop-cons ps i d) refl in
    meaning_more (meaning_of (get_or ps i d).kind (slice_of (bytes_of marks) (get_or ps i d))) (span_of marks (get_or ps i d)) s (commands_in marks (drop (i + 1) ps))
    ∙ sym (ap (λ (qs : List Piece). goes_on s (commands_in marks qs)) next) ∙ h

-- nothing stands before what is read first
pub first_read : (read : Result (List Line) LexFault) (lines : List Line) → behind_lines [] read ≡ Ok lines → read ≡ Ok lines
first_read (Ok ls) lines h = h
first_read (Err fault) lines h = absurd cc
