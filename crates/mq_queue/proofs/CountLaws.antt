-- Free rows are counted as rows are placed, taken out and changed.
use Rattle.std.proofs.Common.{◌≡◌, ℕ, zero, suc, ◌+◌, ◌<◌, ◌≤◌, ◌^◌, Bool, true, false, cond, List, [], ◌∷◌, length, take, get_or, refl, sym, ap, subst, ◌∙◌, arith, get_or-set_same}
use Rattle.std.specs.Prelude.{Some, count_by, position, nat_lt, not, ℤ, pos, negsuc, ◌||◌, slice_get, slice_set, ◌&&◌}
use Rattle.std.specs.List.{list_any}
use Rattle.std.proofs.lemmas.List.{length-take}
use Rattle.std.proofs.lemmas.List.Recursion.{is_count_by}
use Rattle.std.proofs.lemmas.List.Sums.{count_by-le-length, count_by_more_yes, count_by_more_no}
use Rattle.std.proofs.lemmas.List.Quantifiers.{position-Some}
use Rattle.std.proofs.lemmas.Option.{slice_get_read}
use Rattle.std.proofs.lemmas.Bool.Decides.{nat_tests}
use Rattle.mq_message.specs.declared.message.Ident.{Ident}
use Rattle.mq_queue.specs.declared.row.Row.{Row}
use Rattle.mq_queue.specs.Rows.{has_ident, is_free, has_priority}
use Rattle.mq_queue.specs.Queues.{is_waiting, count_waiting, is_held_one}
use Rattle.mq_queue.specs.Counts.{AreCounts, weight, IsOneMore, HaveRoom}

-- The count as a recursion.

abbrev tally : (Row → Bool) → List Row → ℕ
tally p [] = 0
tally p (x ∷ xs) = cond (p x) (1 + tally p xs) (tally p xs)

is_tally : (p : Row → Bool) (rows : List Row) → tally p rows ≡ count_by p rows
is_tally p rows = is_count_by (tally p) p refl (λ x xs. refl) rows

tally_changed : (p : Row → Bool) (rows : List Row) (i : ℕ) (row new : Row) → slice_get rows i ≡ Some row → tally p (slice_set rows i new) + cond (p row) 1 0 ≡ tally p rows + cond (p new) 1 0
tally_changed p [] i row new e = absurd cc
tally_changed p (x ∷ xs) zero row new e = let same : x ≡ row = cc in rw same (grind arith)
tally_changed p (x ∷ xs) (suc i) row new e = grind (arith, tally_changed p xs i row new e)

-- The counters.

counts_freed : (rows : List Row) (i : ℕ) (row new : Row) (frees more : List ℕ) → slice_get rows i ≡ Some row → is_free row ≡ false → AreCounts frees rows → IsOneMore new frees more → AreCounts more (slice_set rows i new)
counts_freed rows i row new frees more e held h is least lt =
    let p = is_waiting least in
    let none : weight least row ≡ 0 = rw held refl in
    omega (arith, none, h least lt, is least lt, is_tally p rows, is_tally p (slice_set rows i new), tally_changed p rows i row new e)

not_free : (has free : Bool) → (has && not free) ≡ true → free ≡ false
not_free true true e = absurd cc
not_free true false e = refl
not_free false free e = absurd cc

-- the held row that is found, freed at its place
pub counts_released : (ident : Ident) (rows : List Row) (i : ℕ) (row new seen : Row) (frees more : List ℕ) → position (is_held_one ident) rows ≡ Some i → row ≡ get_or rows i row → seen ≡ get_or (slice_set rows i new) i seen
    → AreCounts frees rows → IsOneMore seen frees more → AreCounts more (slice_set rows i new)
counts_released ident rows i row new seen frees more e r s h is =
    let at = position-Some (is_held_one ident) rows i row e in
    let passes : is_held_one ident row ≡ true = ap (is_held_one ident) r ∙ at.1 in
    let same : seen ≡ new = s ∙ get_or-set_same rows i new seen at.0 in
    counts_freed rows i row new frees more (slice_get_read rows (length rows) i row refl at.0 r) (not_free (has_ident ident row) (is_free row) passes) h (subst (λ (x : Row). IsOneMore x frees more) same is)

-- Counters of the first so many rows.

one_more : (p : Row → Bool) (rows : List Row) (at : ℕ) (row : Row) → at < length rows → row ≡ get_or rows at row → (t : Bool) → p row ≡ t → count_by p (take (at + 1) rows) ≡ count_by p (take at rows) + cond t 1 0
one_more p rows at row lt e true h = count_by_more_yes p rows at row lt (ap p (sym e) ∙ h)
one_more p rows at row lt e false h = let same = count_by_more_no p rows at row lt (ap p (sym e) ∙ h) in omega (arith, same)

pub counts_next : (rows : List Row) (at : ℕ) (row : Row) (frees more : List ℕ) → at < length rows → row ≡ get_or rows at row → AreCounts frees (take at rows) → IsOneMore row frees more → AreCounts more (take (at + 1) rows)
counts_next rows at row frees more lt e h is least le =
    let p = is_waiting least in
    omega (arith, h least le, is least le, one_more p rows at row lt e (p row) refl)

pub room_next : (rows : List Row) (at : ℕ) (row : Row) (frees : List ℕ) → length rows < 2 ^ 64 → at < length rows → row ≡ get_or rows at row → AreCounts frees (take at rows) → HaveRoom row frees
room_next rows at row frees few lt e h least le =
    let p = is_waiting least in
    omega (arith, few, h least le, one_more p rows at row lt e (p row) refl, count_by-le-length p (take (at + 1) rows), length-take (at + 1) rows)

-- Free rows of any priority, and held ones.

all_wait : (row : Row) → is_waiting 0 row ≡ is_free row
all_wait row = by (is_free row) row.message.md.priority
  where
    by : (free : Bool) (priority : ℤ) → (free && has_priority 0 priority) ≡ free
    by true (pos n) = grind (arith, nat_tests)
    by true (negsuc n) = refl
    by false priority = refl

tally_same : (p q : Row → Bool) → ((row : Row) → p row ≡ q row) → (rows : List Row) → tally p rows ≡ tally q rows
tally_same p q h [] = refl
tally_same p q h (x ∷ xs) = rw (h x, tally_same p q h xs) refl

-- each free row has at least the priority 0
pub waiting_free : (rows : List Row) → count_waiting 0 rows ≡ count_by is_free rows
waiting_free rows = sym (is_tally (is_waiting 0) rows) ∙ tally_same (is_waiting 0) is_free all_wait rows ∙ is_tally is_free rows

fewer : (p : Row → Bool) (rows : List Row) → tally p rows ≤ length rows
fewer p [] = omega arith
fewer p (x ∷ xs) = grind (arith, fewer p xs)

held_step : (x : Row) (xs : List Row) → list_any (λ (row : Row). not (is_free row)) xs ≡ nat_lt (tally is_free xs) (length xs) → (t : Bool) → (not t || list_any (λ (row : Row). not (is_free row)) xs) ≡ nat_lt (cond t (1 + tally is_free xs) (tally is_free xs)) (length (x ∷ xs))
held_step x xs ih true = grind (arith, nat_tests, ih)
held_step x xs ih false = let less = fewer is_free xs in grind (arith, nat_tests)

tally_held : (rows : List Row) → list_any (λ (row : Row). not (is_free row)) rows ≡ nat_lt (tally is_free rows) (length rows)
tally_held [] = refl
tally_held (x ∷ xs) = held_step x xs (tally_held xs) (is_free x)

-- a row is held exactly where there are more rows than free ones
pub held_are_more : (rows : List Row) → list_any (λ (row : Row). not (is_free row)) rows ≡ nat_lt (count_waiting 0 rows) (length rows)
held_are_more rows = tally_held rows ∙ ap (λ n. nat_lt n (length rows)) (is_tally is_free rows ∙ sym (waiting_free rows))
