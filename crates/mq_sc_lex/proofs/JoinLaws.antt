-- Physical lines joined one after the other, as the reader meets them.
use Rattle.std.proofs.Common.{◌≡◌, ℕ, ◌+◌, ◌-◌, ◌≤◌, Bool, true, false, cond, List, [], ◌∷◌, ◌++◌, length, refl, sym, ap, ◌∙◌, append_assoc, arith, inl, inr}
use Rattle.std.specs.Prelude.{◌⊎◌}
use Rattle.mq_text.specs.Lines.{lines_of}
use Rattle.mq_sc_lex.specs.declared.joining.Mark.{Mark}
use Rattle.mq_sc_lex.specs.declared.joining.Joined.{Joined}
use Rattle.mq_sc_lex.specs.declared.joining.Joining.{Joining}
use Rattle.mq_sc_lex.specs.declared.joining.Ending.{Ending}
use Rattle.mq_sc_lex.specs.declared.joining.Ending.TheVariants.{Whole, Plus, Minus}
use Rattle.mq_sc_lex.specs.Joining.{is_comment, ending_of, part_of, before_first, add_part, is_open, joined_from, ended, line_added, last_line, finished}

-- where a command begins with the next line no part of it is there
abbrev pub is_fresh : Ending → List Mark → Type 0
is_fresh Whole front = front ≡ []
is_fresh Plus front = Unit {0}
is_fresh Minus front = Unit {0}

abbrev pub IsFresh : Joining → Type 0
IsFresh s = is_fresh s.before s.front

-- the parts of a line before those that follow
abbrev pub pending : Ending → List Mark → List (List Mark) → List (List Mark)
pending Whole front lines = lines
pending Plus front lines = before_first front lines
pending Minus front lines = before_first front lines

abbrev pub with_lines : Joining → Joined → Joined
with_lines s rest = record rest { lines = s.lines ++ pending s.before s.front rest.lines }

-- what is joined where these lines follow
abbrev pub goes_on : Joining → ℕ → ℕ → List (List ℕ) → Joined
goes_on s number at rows = with_lines s (joined_from s.before number at rows)

abbrev kept : Joined → List (List Mark) → Joined
kept rest lines = record rest { lines = lines }

first_twice : (a b : List Mark) (lines : List (List Mark)) → before_first a (before_first b lines) ≡ before_first (a ++ b) lines
first_twice a b [] = refl
first_twice a b (l ∷ ls) = ap (λ (x : List Mark). x ∷ ls) (sym (append_assoc a b l))

-- one line more
ended_more : (e : Ending) (before : Ending) (front part : List Mark) (lines : List (List Mark)) (rest : Joined) → is_fresh before front
    → with_lines (ended e (front ++ part) lines) rest ≡ kept (add_part part e rest) (lines ++ pending before front (add_part part e rest).lines)
ended_more Whole Whole front part lines rest fresh =
    let same : front ++ part ≡ part = ap (λ (f : List Mark). f ++ part) fresh in
    rw same (ap (λ (ls : List (List Mark)). kept rest ls) (append_assoc lines (part ∷ []) rest.lines))
ended_more Whole Plus front part lines rest fresh = ap (λ (ls : List (List Mark)). kept rest ls) (append_assoc lines ((front ++ part) ∷ []) rest.lines)
ended_more Whole Minus front part lines rest fresh = ap (λ (ls : List (List Mark)). kept rest ls) (append_assoc lines ((front ++ part) ∷ []) rest.lines)
ended_more Plus Whole front part lines rest fresh = ap (λ (f : List Mark). kept rest (lines ++ before_first (f ++ part) rest.lines)) fresh
ended_more Plus Plus front part lines rest fresh = ap (λ (ls : List (List Mark)). kept rest (lines ++ ls)) (sym (first_twice front part rest.lines))
ended_more Plus Minus front part lines rest fresh = ap (λ (ls : List (List Mark)). kept rest (lines ++ ls)) (sym (first_twice front part rest.lines))
ended_more Minus Whole front part lines rest fresh = ap (λ (f : List Mark). kept rest (lines ++ before_first (f ++ part) rest.lines)) fresh
ended_more Minus Plus front part lines rest fresh = ap (λ (ls : List (List Mark)). kept rest (lines ++ ls)) (sym (first_twice front part rest.lines))
ended_more Minus Minus front part lines rest fresh = ap (λ (ls : List (List Mark)). kept rest (lines ++ ls)) (sym (first_twice front part rest.lines))

ended_before : (e : Ending) (line : List Mark) (lines : List (List Mark)) → (ended e line lines).before ≡ e
ended_before Whole line lines = refl
ended_before Plus line lines = refl
ended_before Minus line lines = refl

ended_fresh : (e : Ending) (line : List Mark) (lines : List (List Mark)) → IsFresh (ended e line lines)
ended_fresh Whole line lines = refl
ended_fresh Plus line lines = tt
ended_fresh Minus line lines = tt

line_step : (s : Joining) (number at : ℕ) (bytes : List ℕ) (rows : List (List ℕ)) → IsFresh s → (t : Bool) →
    goes_on (cond t s (ended (ending_of bytes) (s.front ++ part_of s.before number at bytes) s.lines)) (number + 1) (at + length bytes + 1) rows
    ≡ with_lines s (cond t (joined_from s.before (number + 1) (at + length bytes + 1) rows) (add_part (part_of s.before number at bytes) (ending_of bytes) (joined_from (ending_of bytes) (number + 1) (at + length bytes + 1) rows)))
line_step s number at bytes rows fresh true = refl
line_step s number at bytes rows fresh false =
    let next : Joining = ended (ending_of bytes) (s.front ++ part_of s.before number at bytes) s.lines in
    ap (λ (e : Ending). with_lines next (joined_from e (number + 1) (at + length bytes + 1) rows)) (ended_before (ending_of bytes) (s.front ++ part_of s.before number at bytes) s.lines)
    ∙ ended_more (ending_of bytes) s.before s.front (part_of s.before number at bytes) s.lines (joined_from (ending_of bytes) (number + 1) (at + length bytes + 1) rows) fresh

pub line_more : (s : Joining) (number at : ℕ) (bytes : List ℕ) (rows : List (List ℕ)) → IsFresh s → goes_on (line_added number at bytes s) (number + 1) (at + length bytes + 1) rows ≡ goes_on s number at (bytes ∷ rows)
line_more s number at bytes rows fresh = line_step s number at bytes rows fresh (is_comment bytes)

fresh_step : (s next : Joining) → IsFresh s → IsFresh next → (t : Bool) → IsFresh (cond t s next)
fresh_step s next f g true = f
fresh_step s next f g false = g

pub fresh_more : (s : Joining) (number at : ℕ) (bytes : List ℕ) → IsFresh s → IsFresh (line_added number at bytes s)
fresh_more s number at bytes fresh = fresh_step s (ended (ending_of bytes) (s.front ++ part_of s.before number at bytes) s.lines) fresh (ended_fresh (ending_of bytes) (s.front ++ part_of s.before number at bytes) s.lines) (is_comment bytes)

no_line : (before : Ending) (front : List Mark) → pending before front [] ≡ last_line before front
no_line Whole front = refl
no_line Plus front = refl
no_line Minus front = refl

-- no line more
pub none_more : (s : Joining) (number at : ℕ) → goes_on s number at [] ≡ finished s
none_more s number at = ap (λ (ls : List (List Mark)). kept (record { lines = []; unfinished = is_open s.before }) (s.lines ++ ls)) (no_line s.before s.front)

-- the place of the next line: behind this one and its line feed, unless this was the last
pub next_place : (s : Joining) (number len line rest left : ℕ) (bytes : List ℕ) → (line + rest + 1 ≡ left) ⊎ (bytes ≡ []) → rest ≡ length bytes → left ≤ len
    → goes_on s number (len - rest) (lines_of bytes) ≡ goes_on s number ((len - left) + line + 1) (lines_of bytes)
next_place s number len line rest left bytes (inl e) r le = ap (λ (at : ℕ). goes_on s number at (lines_of bytes)) (omega arith)
next_place s number len line rest left bytes (inr e) r le = rw e refl
