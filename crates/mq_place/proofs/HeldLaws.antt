-- The rows of one holder: gone through, freed or taken out one after another.
use Rattle.std.proofs.Common.{◌≡◌, ℕ, zero, suc, ◌+◌, ◌<◌, ◌≤◌, Bool, true, false, cond, List, [], ◌∷◌, ◌++◌, length, refl, sym, ap, subst, ◌∙◌, arith}
use Rattle.std.specs.Prelude.{Option, Some, None, find, filter, map, not, ◌&&◌, ◌||◌, IfSome}
use Rattle.std.specs.List.{AllByRecursion, list_any}
use Rattle.std.proofs.lemmas.List.{length-append}
use Rattle.mq_message.specs.declared.message.Ident.{Ident}
use Rattle.mq_message.specs.declared.place.Place.{Place}
use Rattle.mq_message.specs.declared.place.Holder.{Holder}
use Rattle.mq_queue.specs.declared.row.Row.{Row}
use Rattle.mq_calls.specs.declared.records.Remove.{Remove}
use Rattle.mq_queue.specs.Rows.{same_ident, has_ident, held_by, is_free, is_after, keep, retag}
use Rattle.mq_queue.specs.Queues.{Lacks, AreDistinct, AreInOrder, freed, release_row, has_other_ident}
use Rattle.mq_queue.proofs.Edits.{same_is}
use Rattle.mq_queue.proofs.QueueLaws.{length_kept}
use Rattle.mq_calls.specs.State.{Queue}
use Rattle.mq_calls.specs.Changes.{release_if}
use Rattle.mq_place.specs.States.{QueueState, holds, let_go, is_other_row, has_held_ident, held_on, held_rows, named_row, rows_after}
use Rattle.mq_place.specs.Slots.{present, slot_at}
use Rattle.mq_place.specs.Held.{held_left, held_at_slot, held_from}
use Rattle.mq_place.proofs.AfterLaws.{behind, next_after, rows_from_front}
use Rattle.mq_place.proofs.HomeLaws.{same_self}

-- Rows that pass a test, from one to the next.

first_step : (test : Row → Bool) (x row : Row) (xs : List Row) (b : Bool) → cond b (Some x) (find test xs) ≡ Some row → (find test xs ≡ Some row → filter test xs ≡ row ∷ filter test (behind test xs))
    → cond b (x ∷ filter test xs) (filter test xs) ≡ row ∷ filter test (cond b xs (behind test xs))
first_step test x row xs true e rest = let is : x ≡ row = grind (arith, e) in ap (λ (r : Row). r ∷ filter test xs) is
first_step test x row xs false e rest = rest e

first_passed : (test : Row → Bool) (rows : List Row) (row : Row) → find test rows ≡ Some row → filter test rows ≡ row ∷ filter test (behind test rows)
first_passed test [] row e = absurd cc
first_passed test (x ∷ xs) row e = first_step test x row xs (test x) e (first_passed test xs row)

none_step : (test : Row → Bool) (x : Row) (xs : List Row) (b : Bool) → cond b (Some x) (find test xs) ≡ None → (find test xs ≡ None → filter test xs ≡ []) → cond b (x ∷ filter test xs) (filter test xs) ≡ []
none_step test x xs true e rest = absurd cc
none_step test x xs false e rest = rest e

pub none_passed : (test : Row → Bool) (rows : List Row) → find test rows ≡ None → filter test rows ≡ []
none_passed test [] e = refl
none_passed test (x ∷ xs) e = none_step test x xs (test x) e (none_passed test xs)

pub passed_next : (test : Row → Bool) (after : Option Place) (rows : List Row) (row : Row) → AreInOrder rows → Some row ≡ find test (rows_after after rows)
    → filter test (rows_after after rows) ≡ row ∷ filter test (rows_after (Some row.place) rows)
passed_next test after rows row order e =
    first_passed test (rows_after after rows) row (sym e) ∙ ap (λ (rs : List Row). row ∷ filter test rs) (sym (next_after test after rows row order (sym e)))

filtered_fewer : (test : Row → Bool) (rows : List Row) → length (filter test rows) ≤ length rows
filtered_fewer test [] = omega arith
filtered_fewer test (x ∷ xs) = at (test x) (filtered_fewer test xs)
  where
    at : (b : Bool) → length (filter test xs) ≤ length xs → length (cond b (x ∷ filter test xs) (filter test xs)) ≤ length (x ∷ xs)
    at true le = omega (arith, le)
    at false le = omega (arith, le)

-- How many are left of a holder's rows behind a place.
abbrev pub count_left : Holder → Option Place → List Row → ℕ
count_left by after rows = length (filter (holds by) (rows_after after rows))

pub count_start : (by : Holder) (rows : List Row) → count_left by None rows + 0 ≤ length rows
count_start by rows =
    let front = ap (λ (rs : List Row). length (filter (holds by) rs)) (rows_from_front rows) in
    omega (arith, front, filtered_fewer (holds by) rows)

pub count_next : (by : Holder) (after : Option Place) (rows : List Row) (row : Row) → AreInOrder rows → Some row ≡ find (holds by) (rows_after after rows)
    → count_left by after rows ≡ count_left by (Some row.place) rows + 1
count_next by after rows row order e = let next = ap length (passed_next (holds by) after rows row order e) in omega (arith, next)

-- What is listed of them.

joined : (xs ys : List Remove) (x : Remove) → (xs ++ x ∷ []) ++ ys ≡ xs ++ x ∷ ys
joined [] ys x = refl
joined (y ∷ xs) ys x = ap (λ (zs : List Remove). y ∷ zs) (joined xs ys x)

nothing_more : (xs : List Remove) → xs ++ [] ≡ xs
nothing_more [] = refl
nothing_more (x ∷ xs) = ap (λ (zs : List Remove). x ∷ zs) (nothing_more xs)

associated : (xs ys zs : List Remove) → (xs ++ ys) ++ zs ≡ xs ++ (ys ++ zs)
associated [] ys zs = refl
associated (x ∷ xs) ys zs = ap (λ (rs : List Remove). x ∷ rs) (associated xs ys zs)

pub listed_start : (by : Holder) (q : Queue) → held_left by None q ≡ held_on by q
listed_start by q = ap (λ (rs : List Row). map (named_row q.name) (filter (holds by) rs)) (rows_from_front q.rows)

pub listed_next : (so_far : List Remove) (by : Holder) (after : Option Place) (q : Queue) (row : Row) → AreInOrder q.rows → Some row ≡ find (holds by) (rows_after after q.rows)
    → (so_far ++ named_row q.name row ∷ []) ++ held_left by (Some row.place) q ≡ so_far ++ held_left by after q
listed_next so_far by after q row order e =
    joined so_far (held_left by (Some row.place) q) (named_row q.name row)
    ∙ ap (λ (rs : List Row). so_far ++ map (named_row q.name) rs) (sym (passed_next (holds by) after q.rows row order e))

pub listed_none : (so_far : List Remove) (by : Holder) (after : Option Place) (q : Queue) → None ≡ find (holds by) (rows_after after q.rows) → so_far ++ held_left by after q ≡ so_far
listed_none so_far by after q e =
    ap (λ (rs : List Row). so_far ++ map (named_row q.name) rs) (none_passed (holds by) (rows_after after q.rows) (sym e)) ∙ nothing_more so_far

no_rows : (rows : List Row) → length rows ≤ 0 → rows ≡ []
no_rows [] le = refl
no_rows (x ∷ xs) le = absurd (omega (arith, le))

pub listed_end : (so_far : List Remove) (by : Holder) (after : Option Place) (q : Queue) (n : ℕ) → count_left by after q.rows + n ≤ length q.rows → length q.rows ≤ n → so_far ++ held_left by after q ≡ so_far
listed_end so_far by after q n left all =
    ap (λ (rs : List Row). so_far ++ map (named_row q.name) rs) (no_rows (filter (holds by) (rows_after after q.rows)) (omega (arith, left, all))) ∙ nothing_more so_far

-- room that is there is less than all, where it is less than what comes next
pub short_at : (so_far here rest old all : List Remove) (room left : ℕ) → (so_far ++ here) ++ rest ≡ old ++ all → room + length old ≤ left + length so_far → left < length here → room < length all
short_at so_far here rest old all room left e stays short =
    let whole = ap length e in
    let a = length-append (so_far ++ here) rest in
    let b = length-append so_far here in
    let c = length-append old all in
    omega (arith, whole, a, b, c, stays, short)

-- slot by slot
cons_slot : (by : Holder) (slot : Option QueueState) (slots : List (Option QueueState)) → held_at_slot by slot ++ held_rows by (present slots) ≡ held_rows by (present (slot ∷ slots))
cons_slot by None slots = refl
cons_slot by (Some s) slots = refl

split_slots : (by : Holder) (slots : List (Option QueueState)) (n : ℕ) → held_at_slot by (slot_at slots n) ++ held_from by (suc n) slots ≡ held_from by n slots
split_slots by [] zero = refl
split_slots by [] (suc n) = refl
split_slots by (slot ∷ slots) zero = cons_slot by slot slots
split_slots by (slot ∷ slots) (suc n) = split_slots by slots n

pub slots_next : (so_far : List Remove) (by : Holder) (slots : List (Option QueueState)) (n : ℕ)
    → (so_far ++ held_at_slot by (slot_at slots n)) ++ held_from by (n + 1) slots ≡ so_far ++ held_from by n slots
slots_next so_far by slots n =
    let more : n + 1 ≡ suc n = omega arith in
    associated so_far (held_at_slot by (slot_at slots n)) (held_from by (n + 1) slots)
    ∙ ap (λ (k : ℕ). so_far ++ (held_at_slot by (slot_at slots n) ++ held_from by k slots)) more
    ∙ ap (λ (rs : List Remove). so_far ++ rs) (split_slots by slots n)

none_from : (by : Holder) (slots : List (Option QueueState)) (n : ℕ) → length slots ≤ n → held_from by n slots ≡ []
none_from by [] zero le = refl
none_from by [] (suc n) le = refl
none_from by (slot ∷ slots) zero le = absurd (omega (arith, le))
none_from by (slot ∷ slots) (suc n) le = none_from by slots n (omega (arith, le))

pub slots_end : (so_far : List Remove) (by : Holder) (slots : List (Option QueueState)) (n : ℕ) → length slots ≤ n → so_far ++ held_from by n slots ≡ so_far
slots_end so_far by slots n le = ap (λ (rs : List Remove). so_far ++ rs) (none_from by slots n le) ∙ nothing_more so_far

-- A row that is found behind a place stands on the queue.

any_step : (by : Holder) (x row : Row) (b : Bool) (rest : Bool) → holds by x ≡ b → (e : Option Row) → cond b (Some x) e ≡ Some row → (e ≡ Some row → rest ≡ true) → (has_held_ident by row.message.ident x || rest) ≡ true
any_step by x row true rest h e found later =
    let is : x ≡ row = grind (arith, found) in
    subst (λ (r : Row). (has_held_ident by r.message.ident x || rest) ≡ true) is
    (both (same_ident x.message.ident x.message.ident) (holds by x) rest (same_self x.message.ident) h)
  where
    both : (a b c : Bool) → a ≡ true → b ≡ true → ((a && b) || c) ≡ true
    both a b c p q = cc
any_step by x row false rest h e found later = or_true (has_held_ident by row.message.ident x) rest (later found)
  where
    or_true : (a b : Bool) → b ≡ true → (a || b) ≡ true
    or_true true b e = refl
    or_true false b e = e

or_later : (a b : Bool) → b ≡ true → (a || b) ≡ true
or_later true b e = refl
or_later false b e = e

behind_any : (by : Holder) (start : Option Place) (rows : List Row) (row : Row) → find (holds by) (rows_after start rows) ≡ Some row → list_any (has_held_ident by row.message.ident) rows ≡ true
behind_any by start [] row e = absurd cc
behind_any by start (x ∷ xs) row e = at (is_after start x) e (behind_any by start xs row)
  where
    at : (b : Bool) → find (holds by) (cond b (x ∷ rows_after start xs) (rows_after start xs)) ≡ Some row
        → (find (holds by) (rows_after start xs) ≡ Some row → list_any (has_held_ident by row.message.ident) xs ≡ true)
        → (has_held_ident by row.message.ident x || list_any (has_held_ident by row.message.ident) xs) ≡ true
    at true e rest = any_step by x row (holds by x) (list_any (has_held_ident by row.message.ident) xs) refl (find (holds by) (rows_after start xs)) e rest
    at false e rest = or_later (has_held_ident by row.message.ident x) (list_any (has_held_ident by row.message.ident) xs) (rest e)

pub found_any : (by : Holder) (start : Option Place) (rows : List Row) (row : Row) → Some row ≡ find (holds by) (rows_after start rows) → list_any (has_held_ident by row.message.ident) rows ≡ true
found_any by start rows row e = behind_any by start rows row (sym e)

pub first_any : (by : Holder) (rows : List Row) (o : Option Row) → o ≡ find (holds by) (rows_after None rows) → IfSome o (λ row. list_any (has_held_ident by row.message.ident) rows ≡ true)
first_any by rows None e = tt
first_any by rows (Some row) e = found_any by None rows row e

pub none_any : (by : Holder) (rows : List Row) (o : Option Row) → o ≡ find (holds by) (rows_after None rows) → o ≡ None → find (holds by) rows ≡ None
none_any by rows o e none = ap (find (holds by)) (sym (rows_from_front rows)) ∙ sym e ∙ none

-- The one row of an ident is the holder's.

abbrev pub IsOnly : Holder → Ident → List Row → Type 0
IsOnly by ident rows = AllByRecursion (λ (row : Row). has_ident ident row ≡ true → holds by row ≡ true) rows

lacking : (by : Holder) (ident : Ident) (rows : List Row) → Lacks ident rows → (list_any (has_held_ident by ident) rows ≡ false) × IsOnly by ident rows
lacking by ident [] l = (refl, tt)
lacking by ident (x ∷ xs) l =
    let rest = lacking by ident xs l.1 in
    ((λ i. (l.0 i && holds by x) || rest.0 i), (λ e. absurd (cc (l.0, e)), rest.1))

only_step : (by : Holder) (ident : Ident) (x : Row) (xs : List Row) → Lacks x.message.ident xs → (list_any (has_held_ident by ident) xs ≡ true → IsOnly by ident xs)
    → (b : Bool) → has_ident ident x ≡ b → ((b && holds by x) || list_any (has_held_ident by ident) xs) ≡ true → IsOnly by ident (x ∷ xs)
only_step by ident x xs lacks rest false e any = (λ t. absurd (cc (e, t)), rest any)
only_step by ident x xs lacks rest true e any =
    let is : x.message.ident ≡ ident = same_is x.message.ident ident e in
    let none = lacking by ident xs (subst (λ (i : Ident). Lacks i xs) is lacks) in
    (λ t. or_first (holds by x) (list_any (has_held_ident by ident) xs) none.0 any, none.1)
  where
    or_first : (a b : Bool) → b ≡ false → (a || b) ≡ true → a ≡ true
    or_first true b e any = refl
    or_first false b e any = absurd (cc (e, any))

pub only : (by : Holder) (ident : Ident) (rows : List Row) → AreDistinct rows → list_any (has_held_ident by ident) rows ≡ true → IsOnly by ident rows
only by ident [] d any = tt
only by ident (x ∷ xs) d any = only_step by ident x xs d.0 (only by ident xs d.1) (has_ident ident x) refl any

-- Freed one after another.

let_go_step : (by : Holder) (ident : Ident) (x : Row) → (has_ident ident x ≡ true → holds by x ≡ true) → let_go by (release_row ident false x) ≡ let_go by x
let_go_step by ident x only = at (has_ident ident x) refl x.by refl
  where
    at : (b : Bool) → has_ident ident x ≡ b → (o : Option Holder) → x.by ≡ o → let_go by (release_row ident false x) ≡ let_go by x
    at false e o h = ap (λ (c : Bool). let_go by (cond (c && not (is_free x)) (freed false x) x)) e
    at true e None h = absurd (cc (only e, ap (held_by by) h))
    at true e (Some holder) h =
        let held = only e in
        let taken : is_free x ≡ false = grind (arith, h) in
        (λ i. let_go by (cond (e i && not (taken i)) (freed false x) x))
        ∙ sym (λ i. release_if (held i && not (taken i)) false x)

pub let_go_once : (by : Holder) (ident : Ident) (rows : List Row) → IsOnly by ident rows → retag (let_go by) (retag (release_row ident false) rows) ≡ retag (let_go by) rows
let_go_once by ident [] only = refl
let_go_once by ident (x ∷ xs) only = let first = let_go_step by ident x only.0 in let rest = let_go_once by ident xs only.1 in λ i. first i ∷ rest i

-- Taken out one after another.

pub other_once : (by : Holder) (ident : Ident) (rows : List Row) → IsOnly by ident rows → keep (is_other_row by) (keep (has_other_ident ident) rows) ≡ keep (is_other_row by) rows
other_once by ident [] only = refl
other_once by ident (x ∷ xs) only = at (has_ident ident x) refl (holds by x) refl (other_once by ident xs only.1)
  where
    at : (b : Bool) → has_ident ident x ≡ b → (h : Bool) → holds by x ≡ h → keep (is_other_row by) (keep (has_other_ident ident) xs) ≡ keep (is_other_row by) xs
        → keep (is_other_row by) (cond (not b) (x ∷ keep (has_other_ident ident) xs) (keep (has_other_ident ident) xs)) ≡ cond (not h) (x ∷ keep (is_other_row by) xs) (keep (is_other_row by) xs)
    at true e true h rest = rest
    at true e false h rest = absurd (cc (only.0 e, h))
    at false e true h rest = (λ i. cond (not (h i)) (x ∷ keep (is_other_row by) (keep (has_other_ident ident) xs)) (keep (is_other_row by) (keep (has_other_ident ident) xs))) ∙ rest
    at false e false h rest =
        (λ i. cond (not (h i)) (x ∷ keep (is_other_row by) (keep (has_other_ident ident) xs)) (keep (is_other_row by) (keep (has_other_ident ident) xs)))
        ∙ ap (λ (rs : List Row). x ∷ rs) rest

-- How many there are.
abbrev pub count_held : Holder → List Row → ℕ
count_held by rows = length (keep (holds by) rows)

pub held_start : (by : Holder) (rows : List Row) → count_held by rows + 0 ≤ length rows
held_start by rows = omega (arith, length_kept (holds by) rows)

-- each that goes is one less
step_count : (x : Row) (xs : List Row) (b : Bool) → length (cond b (x ∷ xs) xs) ≡ cond b 1 0 + length xs
step_count x xs true = omega arith
step_count x xs false = omega arith

freed_fewer : (by : Holder) (ident : Ident) (rows : List Row) → count_held by (retag (release_row ident false) rows) ≤ count_held by rows
freed_fewer by ident [] = omega arith
freed_fewer by ident (x ∷ xs) = at (has_ident ident x && not (is_free x)) (freed_fewer by ident xs)
  where
    at : (b : Bool) → count_held by (retag (release_row ident false) xs) ≤ count_held by xs
        → length (cond (holds by (cond b (freed false x) x)) (cond b (freed false x) x ∷ keep (holds by) (retag (release_row ident false) xs)) (keep (holds by) (retag (release_row ident false) xs))) ≤ count_held by (x ∷ xs)
    at true le = omega (arith, le, step_count x (keep (holds by) xs) (holds by x))
    at false le = omega (arith, le, step_count x (keep (holds by) xs) (holds by x), step_count x (keep (holds by) (retag (release_row ident false) xs)) (holds by x))

pub freed_less : (by : Holder) (ident : Ident) (rows : List Row) → list_any (has_held_ident by ident) rows ≡ true → count_held by (retag (release_row ident false) rows) + 1 ≤ count_held by rows
freed_less by ident [] any = absurd cc
freed_less by ident (x ∷ xs) any = at (has_ident ident x) refl x.by refl any (freed_less by ident xs)
  where
    later : count_held by (retag (release_row ident false) xs) + 1 ≤ count_held by xs → (y : Row) → (holds by y ≡ true → holds by x ≡ true)
        → length (cond (holds by y) (y ∷ keep (holds by) (retag (release_row ident false) xs)) (keep (holds by) (retag (release_row ident false) xs))) + 1 ≤ count_held by (x ∷ xs)
    later le y keeps = bits (holds by y) (holds by x) keeps
      where
        bits : (b c : Bool) → (b ≡ true → c ≡ true)
            → length (cond b (y ∷ keep (holds by) (retag (release_row ident false) xs)) (keep (holds by) (retag (release_row ident false) xs))) + 1 ≤ length (cond c (x ∷ keep (holds by) xs) (keep (holds by) xs))
        bits true true k = omega (arith, le)
        bits true false k = absurd (cc (k refl))
        bits false true k = omega (arith, le)
        bits false false k = omega (arith, le)

    at : (b : Bool) → has_ident ident x ≡ b → (o : Option Holder) → x.by ≡ o → ((b && holds by x) || list_any (has_held_ident by ident) xs) ≡ true
        → (list_any (has_held_ident by ident) xs ≡ true → count_held by (retag (release_row ident false) xs) + 1 ≤ count_held by xs)
        → count_held by (release_row ident false x ∷ retag (release_row ident false) xs) + 1 ≤ count_held by (x ∷ xs)
    at false e o h any rest =
        let stays : release_row ident false x ≡ x = λ i. cond (e i && not (is_free x)) (freed false x) x in
        later (rest any) (release_row ident false x) (λ k. ap (holds by) (sym stays) ∙ k)
    at true e None h any rest =
        let none : holds by x ≡ false = ap (held_by by) h in
        let free : is_free x ≡ true = grind (arith, h) in
        let stays : release_row ident false x ≡ x = λ i. cond (e i && not (free i)) (freed false x) x in
        later (rest ((λ i. sym none i || list_any (has_held_ident by ident) xs) ∙ any)) (release_row ident false x) (λ k. ap (holds by) (sym stays) ∙ k)
    at true e (Some holder) h any rest =
        let taken : is_free x ≡ false = grind (arith, h) in
        let goes : release_row ident false x ≡ freed false x = λ i. cond (e i && not (taken i)) (freed false x) x in
        subst (λ (y : Row). count_held by (y ∷ retag (release_row ident false) xs) + 1 ≤ count_held by (x ∷ xs)) (sym goes) (gone (holds by x) any (freed_fewer by ident xs) rest)
      where
        gone : (b : Bool) → (b || list_any (has_held_ident by ident) xs) ≡ true → count_held by (retag (release_row ident false) xs) ≤ count_held by xs
            → (list_any (has_held_ident by ident) xs ≡ true → count_held by (retag (release_row ident false) xs) + 1 ≤ count_held by xs) → count_held by (retag (release_row ident false) xs) + 1 ≤ length (cond b (x ∷ keep (holds by) xs) (keep (holds by) xs))
        gone true any fewer rest = omega (arith, fewer)
        gone false any fewer rest = rest any

kept_fewer : (by : Holder) (ident : Ident) (rows : List Row) → count_held by (keep (has_other_ident ident) rows) ≤ count_held by rows
kept_fewer by ident [] = omega arith
kept_fewer by ident (x ∷ xs) = at (has_ident ident x) (holds by x) refl (kept_fewer by ident xs)
  where
    at : (b h : Bool) → holds by x ≡ h → count_held by (keep (has_other_ident ident) xs) ≤ count_held by xs
        → count_held by (cond (not b) (x ∷ keep (has_other_ident ident) xs) (keep (has_other_ident ident) xs)) ≤ length (cond h (x ∷ keep (holds by) xs) (keep (holds by) xs))
    at true true h le = omega (arith, le)
    at true false h le = omega (arith, le)
    at false true h le = omega (arith, le, ap (λ (c : Bool). length (cond c (x ∷ keep (holds by) (keep (has_other_ident ident) xs)) (keep (holds by) (keep (has_other_ident ident) xs)))) h)
    at false false h le = omega (arith, le, ap (λ (c : Bool). length (cond c (x ∷ keep (holds by) (keep (has_other_ident ident) xs)) (keep (holds by) (keep (has_other_ident ident) xs)))) h)

pub kept_less : (by : Holder) (ident : Ident) (rows : List Row) → list_any (has_held_ident by ident) rows ≡ true → count_held by (keep (has_other_ident ident) rows) + 1 ≤ count_held by rows
kept_less by ident [] any = absurd cc
kept_less by ident (x ∷ xs) any = at (has_ident ident x) (holds by x) refl any (kept_less by ident xs)
  where
    at : (b h : Bool) → holds by x ≡ h → ((b && h) || list_any (has_held_ident by ident) xs) ≡ true
        → (list_any (has_held_ident by ident) xs ≡ true → count_held by (keep (has_other_ident ident) xs) + 1 ≤ count_held by xs)
        → count_held by (cond (not b) (x ∷ keep (has_other_ident ident) xs) (keep (has_other_ident ident) xs)) + 1 ≤ length (cond h (x ∷ keep (holds by) xs) (keep (holds by) xs))
    at true true h any rest = omega (arith, kept_fewer by ident xs)
    at true false h any rest = omega (arith, rest any)
    at false true h any rest = omega (arith, rest any, ap (λ (c : Bool). length (cond c (x ∷ keep (holds by) (keep (has_other_ident ident) xs)) (keep (holds by) (keep (has_other_ident ident) xs)))) h)
    at false false h any rest = omega (arith, rest any, ap (λ (c : Bool). length (cond c (x ∷ keep (holds by) (keep (has_other_ident ident) xs)) (keep (holds by) (keep (has_other_ident ident) xs)))) h)

-- Where the holder has none, all stays.

pub none_go : (by : Holder) (rows : List Row) → find (holds by) rows ≡ None → retag (let_go by) rows ≡ rows
none_go by [] e = refl
none_go by (x ∷ xs) e = at (holds by x) e refl (none_go by xs)
  where
    at : (b : Bool) → cond b (Some x) (find (holds by) xs) ≡ None → holds by x ≡ b → (find (holds by) xs ≡ None → retag (let_go by) xs ≡ xs) → let_go by x ∷ retag (let_go by) xs ≡ x ∷ xs
    at true e h rest = absurd cc
    at false e h rest = let tail = rest e in λ i. release_if (h i && not (is_free x)) false x ∷ tail i

pub none_leave : (by : Holder) (rows : List Row) → find (holds by) rows ≡ None → keep (is_other_row by) rows ≡ rows
none_leave by [] e = refl
none_leave by (x ∷ xs) e = at (holds by x) e refl (none_leave by xs)
  where
    at : (b : Bool) → cond b (Some x) (find (holds by) xs) ≡ None → holds by x ≡ b → (find (holds by) xs ≡ None → keep (is_other_row by) xs ≡ xs) → keep (is_other_row by) (x ∷ xs) ≡ x ∷ xs
    at true e h rest = absurd cc
    at false e h rest = let tail = rest e in λ i. cond (not (h i)) (x ∷ tail i) (tail i)

no_count : (by : Holder) (rows : List Row) → count_held by rows ≤ 0 → find (holds by) rows ≡ None
no_count by [] le = refl
no_count by (x ∷ xs) le = at (holds by x) le (no_count by xs)
  where
    at : (b : Bool) → length (cond b (x ∷ keep (holds by) xs) (keep (holds by) xs)) ≤ 0 → (count_held by xs ≤ 0 → find (holds by) xs ≡ None) → cond b (Some x) (find (holds by) xs) ≡ None
    at true le rest = absurd (omega (arith, le))
    at false le rest = rest le

pub none_counted : (by : Holder) (rows : List Row) (n most : ℕ) → count_held by rows + n ≤ most → most ≤ n → find (holds by) rows ≡ None
none_counted by rows n most left all = no_count by rows (omega (arith, left, all))
