-- Rows in order of place that are gone through from one to the next that passes a test.
use Rattle.std.proofs.Common.{◌≡◌, ℕ, zero, suc, ◌+◌, ◌-◌, ◌<◌, ◌≤◌, Bool, true, false, eqb, cond, List, [], ◌∷◌, ◌++◌, length, refl, sym, ap, subst, ◌∙◌, arith}
use Rattle.std.specs.Prelude.{Option, Some, None, if◌then◌else◌, find, filter, take, map, nat_lt, ◌&&◌, ◌||◌}
use Rattle.std.specs.List.{AllByRecursion}
use Rattle.std.proofs.lemmas.Bool.Decides.{nat_tests}
use Rattle.mq_message.specs.declared.message.Ident.{Ident}
use Rattle.mq_message.specs.declared.place.Place.{Place}
use Rattle.mq_queue.specs.declared.row.Row.{Row}
use Rattle.mq_queue.specs.Rows.{is_free, is_before, is_after, keep}
use Rattle.mq_queue.specs.Queues.{AllBehind, AreInOrder}
use Rattle.mq_queue.proofs.QueueLaws.{order_keep}
use Rattle.mq_queue.proofs.PlaceLaws.{before_trans}
use Rattle.mq_place.specs.States.{rows_after, is_free_after, free_idents, row_ident}
use Rattle.mq_place.proofs.RowLaws.{keep_twice, keep_same_rows}

-- the rows behind the first that passes a test
abbrev pub behind : (Row → Bool) → List Row → List Row
behind test [] = []
behind test (row ∷ rows) = if test row then rows else behind test rows

not_before_self : (a : Place) → is_before a a ≡ false
not_before_self a = by a.lane a.arrival
  where
    by : (l n : ℕ) → (nat_lt l l || (eqb l l && nat_lt n n)) ≡ false
    by l n = grind (arith, nat_tests)

not_before_back : (a b : Place) → is_before a b ≡ true → is_before b a ≡ false
not_before_back a b p = by a.lane b.lane a.arrival b.arrival p
  where
    by : (l1 l2 a1 a2 : ℕ) → (nat_lt l1 l2 || (eqb l1 l2 && nat_lt a1 a2)) ≡ true → (nat_lt l2 l1 || (eqb l2 l1 && nat_lt a2 a1)) ≡ false
    by l1 l2 a1 a2 p = grind (arith, nat_tests)

-- what holds of each row holds of one that is found
found_step : (P : Row → Type 0) (test : Row → Bool) (x row : Row) (xs : List Row) (b : Bool) → P x → cond b (Some x) (find test xs) ≡ Some row → (find test xs ≡ Some row → P row) → P row
found_step P test x row xs true p e rest = let is : x ≡ row = grind (arith, e) in subst P is p
found_step P test x row xs false p e rest = rest e

pub found_has : (P : Row → Type 0) (test : Row → Bool) (rows : List Row) (row : Row) → AllByRecursion P rows → find test rows ≡ Some row → P row
found_has P test [] row all e = absurd cc
found_has P test (x ∷ xs) row all e = found_step P test x row xs (test x) all.0 e (found_has P test xs row all.1)

kept_step : (test : Row → Bool) (x : Row) (rows : List Row) (b : Bool) → test x ≡ b → AllByRecursion (λ (r : Row). test r ≡ true) rows → AllByRecursion (λ (r : Row). test r ≡ true) (cond b (x ∷ rows) rows)
kept_step test x rows true e all = (e, all)
kept_step test x rows false e all = all

-- rows that were kept pass the test
pub kept_pass : (test : Row → Bool) (rows : List Row) → AllByRecursion (λ (r : Row). test r ≡ true) (keep test rows)
kept_pass test [] = tt
kept_pass test (x ∷ xs) = kept_step test x (keep test xs) (test x) refl (kept_pass test xs)

all_behind_kept : (place : Place) (rows : List Row) → AllBehind place rows → rows_after (Some place) rows ≡ rows
all_behind_kept place [] all = refl
all_behind_kept place (x ∷ xs) all = let first = all.0 in let rest = all_behind_kept place xs all.1 in λ i. cond (first i) (x ∷ rest i) (rest i)

behind_step : (test : Row → Bool) (x row : Row) (xs : List Row) → AllBehind x.place xs → (b : Bool) → cond b (Some x) (find test xs) ≡ Some row
    → (find test xs ≡ Some row → rows_after (Some row.place) xs ≡ behind test xs) → rows_after (Some row.place) (x ∷ xs) ≡ cond b xs (behind test xs)
behind_step test x row xs all true e rest =
    let is : x ≡ row = grind (arith, e) in
    subst (λ (r : Row). rows_after (Some r.place) (x ∷ xs) ≡ xs) is
    (ap (λ (b : Bool). cond b (x ∷ rows_after (Some x.place) xs) (rows_after (Some x.place) xs)) (not_before_self x.place) ∙ all_behind_kept x.place xs all)
behind_step test x row xs all false e rest =
    let later : is_before x.place row.place ≡ true = found_has (λ (r : Row). is_before x.place r.place ≡ true) test xs row all e in
    ap (λ (b : Bool). cond b (x ∷ rows_after (Some row.place) xs) (rows_after (Some row.place) xs)) (not_before_back x.place row.place later) ∙ rest e

behind_is : (test : Row → Bool) (rows : List Row) (row : Row) → AreInOrder rows → find test rows ≡ Some row → rows_after (Some row.place) rows ≡ behind test rows
behind_is test [] row order e = absurd cc
behind_is test (x ∷ xs) row order e = behind_step test x row xs order.0 (test x) e (behind_is test xs row order.1)

later_both : (after : Option Place) (place : Place) (row other : Row) → row.place ≡ place → is_after after row ≡ true → (is_after after other && is_before place other.place) ≡ is_before place other.place
later_both None place row other is e = refl
later_both (Some start) place row other is e = at (is_before place other.place) refl
  where
    at : (b : Bool) → is_before place other.place ≡ b → (is_before start other.place && b) ≡ b
    at true h = let t = before_trans start place other.place (ap (is_before start) (sym is) ∙ e) h in ap (λ (b : Bool). b && true) t
    at false h = none (is_before start other.place)
      where
        none : (b : Bool) → (b && false) ≡ false
        none true = refl
        none false = refl

-- from one place to the next that passes: what is left is what stands behind it
pub next_after : (test : Row → Bool) (after : Option Place) (rows : List Row) (row : Row) → AreInOrder rows → find test (rows_after after rows) ≡ Some row → rows_after (Some row.place) rows ≡ behind test (rows_after after rows)
next_after test after rows row order e =
    let passes : is_after after row ≡ true = found_has (λ (r : Row). is_after after r ≡ true) test (rows_after after rows) row (kept_pass (is_after after) rows) e in
    sym (keep_twice (is_after after) (is_after (Some row.place)) (is_after (Some row.place)) (λ (other : Row). later_both after row.place row other refl passes) rows)
    ∙ behind_is test (rows_after after rows) row (order_keep (is_after after) rows order) e

-- from the front all rows are left
pub rows_from_front : (rows : List Row) → rows_after None rows ≡ rows
rows_from_front rows = keep_same_rows (is_after None) (λ (row : Row). refl) rows

-- a test behind a place is one of the rows there
find_step : (test : Row → Bool) (x : Row) (a b : Bool) (r : Option Row) (kept : List Row) → test x ≡ b → r ≡ find test kept → cond (a && b) (Some x) r ≡ find test (cond a (x ∷ kept) kept)
find_step test x true b r kept e is = λ i. cond (sym e i) (Some x) (is i)
find_step test x false b r kept e is = is

pub find_after : (both test : Row → Bool) (after : Option Place) → ((row : Row) → both row ≡ (is_after after row && test row)) → (rows : List Row) → find both rows ≡ find test (rows_after after rows)
find_after both test after e [] = refl
find_after both test after e (x ∷ xs) =
    (λ i. cond (e x i) (Some x) (find both xs)) ∙ find_step test x (is_after after x) (test x) (find both xs) (rows_after after xs) refl (find_after both test after e xs)

shorter_step : (test : Row → Bool) (x row : Row) (xs : List Row) (b : Bool) → cond b (Some x) (find test xs) ≡ Some row → (find test xs ≡ Some row → length (behind test xs) < length xs) → length (cond b xs (behind test xs)) < length (x ∷ xs)
shorter_step test x row xs true e rest = omega arith
shorter_step test x row xs false e rest = omega (arith, rest e)

-- fewer are left
pub shorter : (test : Row → Bool) (rows : List Row) (row : Row) → find test rows ≡ Some row → length (behind test rows) < length rows
shorter test [] row e = absurd cc
shorter test (x ∷ xs) row e = shorter_step test x row xs (test x) e (shorter test xs row)

-- Free rows.

pub free_is_after : (after : Option Place) (row : Row) → is_free_after after row ≡ (is_after after row && is_free row)
free_is_after after row = by (is_free row) (is_after after row)
  where
    by : (a b : Bool) → (a && b) ≡ (b && a)
    by true true = refl
    by true false = refl
    by false true = refl
    by false false = refl

free_step : (x row : Row) (xs : List Row) (b : Bool) → cond b (Some x) (find is_free xs) ≡ Some row → (find is_free xs ≡ Some row → filter is_free xs ≡ row ∷ filter is_free (behind is_free xs))
    → cond b (x ∷ filter is_free xs) (filter is_free xs) ≡ row ∷ filter is_free (cond b xs (behind is_free xs))
free_step x row xs true e rest = let is : x ≡ row = grind (arith, e) in ap (λ (r : Row). r ∷ filter is_free xs) is
free_step x row xs false e rest = rest e

pub first_free : (rows : List Row) (row : Row) → find is_free rows ≡ Some row → filter is_free rows ≡ row ∷ filter is_free (behind is_free rows)
first_free [] row e = absurd cc
first_free (x ∷ xs) row e = free_step x row xs (is_free x) e (first_free xs row)

none_step : (x : Row) (xs : List Row) (b : Bool) → cond b (Some x) (find is_free xs) ≡ None → (find is_free xs ≡ None → filter is_free xs ≡ []) → cond b (x ∷ filter is_free xs) (filter is_free xs) ≡ []
none_step x xs true e rest = absurd cc
none_step x xs false e rest = rest e

pub no_free : (rows : List Row) → find is_free rows ≡ None → filter is_free rows ≡ []
no_free [] e = refl
no_free (x ∷ xs) e = none_step x xs (is_free x) e (no_free xs)

-- All rows, one after another.

abbrev pub any_row : Row → Bool
any_row row = true

pub after_any : (after : Option Place) (row : Row) → is_after after row ≡ (is_after after row && any_row row)
after_any after row = by (is_after after row)
  where
    by : (b : Bool) → b ≡ (b && true)
    by true = refl
    by false = refl

pub first_any : (rows : List Row) (row : Row) → find any_row rows ≡ Some row → rows ≡ row ∷ behind any_row rows
first_any [] row e = absurd cc
first_any (x ∷ xs) row e = let is : x ≡ row = grind (arith, e) in ap (λ (r : Row). r ∷ xs) is

pub no_row : (rows : List Row) → find any_row rows ≡ None → rows ≡ []
no_row [] e = refl
no_row (x ∷ xs) e = absurd cc

-- A walk from row to row that looks for the first that passes a test.

walk : (after : Option Place) (rows : List Row) (row : Row) → Some row ≡ find (is_after after) rows → find any_row (rows_after after rows) ≡ Some row
walk after rows row e = sym (find_after (is_after after) any_row after (after_any after) rows) ∙ sym e

walked : (after : Option Place) (rows : List Row) (row : Row) → AreInOrder rows → Some row ≡ find (is_after after) rows → rows_after after rows ≡ row ∷ rows_after (Some row.place) rows
walked after rows row order e =
    first_any (rows_after after rows) row (walk after rows row e) ∙ ap (λ (rs : List Row). row ∷ rs) (sym (next_after any_row after rows row order (walk after rows row e)))

pub row_here : (test : Row → Bool) (after : Option Place) (rows : List Row) (row : Row) → AreInOrder rows → Some row ≡ find (is_after after) rows → test row ≡ true → find test (rows_after after rows) ≡ Some row
row_here test after rows row order e t =
    ap (find test) (walked after rows row order e) ∙ ap (λ (b : Bool). cond b (Some row) (find test (rows_after (Some row.place) rows))) t

pub row_next : (test : Row → Bool) (after : Option Place) (rows : List Row) (row : Row) → AreInOrder rows → Some row ≡ find (is_after after) rows → test row ≡ false
    → find test (rows_after after rows) ≡ find test (rows_after (Some row.place) rows)
row_next test after rows row order e t =
    ap (find test) (walked after rows row order e) ∙ ap (λ (b : Bool). cond b (Some row) (find test (rows_after (Some row.place) rows))) t

pub row_fewer : (after : Option Place) (rows : List Row) (row : Row) → AreInOrder rows → Some row ≡ find (is_after after) rows → length (rows_after after rows) ≡ length (rows_after (Some row.place) rows) + 1
row_fewer after rows row order e = let more = ap length (walked after rows row order e) in omega (arith, more)

pub row_none : (test : Row → Bool) (after : Option Place) (rows : List Row) → None ≡ find (is_after after) rows → find test (rows_after after rows) ≡ None
row_none test after rows e = ap (find test) (no_row (rows_after after rows) (sym (find_after (is_after after) any_row after (after_any after) rows) ∙ sym e))

none_left : (test : Row → Bool) (rows : List Row) → length rows ≤ 0 → find test rows ≡ None
none_left test [] le = refl
none_left test (x ∷ xs) le = absurd (omega (arith, le))

pub row_end : (test : Row → Bool) (after : Option Place) (rows : List Row) (n : ℕ) → length (rows_after after rows) + n ≤ length rows → length rows ≤ n → find test (rows_after after rows) ≡ None
row_end test after rows n left all = none_left test (rows_after after rows) (omega (arith, left, all))

-- A walk over free rows.

free : (after : Option Place) (rows : List Row) (row : Row) → Some row ≡ find (is_free_after after) rows → find is_free (rows_after after rows) ≡ Some row
free after rows row e = sym (find_after (is_free_after after) is_free after (free_is_after after) rows) ∙ sym e

pub free_next : (after : Option Place) (rows : List Row) (row : Row) → AreInOrder rows → Some row ≡ find (is_free_after after) rows
    → filter is_free (rows_after after rows) ≡ row ∷ filter is_free (rows_after (Some row.place) rows)
free_next after rows row order e =
    let found = free after rows row e in
    first_free (rows_after after rows) row found ∙ ap (λ (rs : List Row). row ∷ filter is_free rs) (sym (next_after is_free after rows row order found))

pub free_none : (after : Option Place) (rows : List Row) → None ≡ find (is_free_after after) rows → filter is_free (rows_after after rows) ≡ []
free_none after rows e = no_free (rows_after after rows) (sym (find_after (is_free_after after) is_free after (free_is_after after) rows) ∙ sym e)

-- the idents of so many free rows that are left
abbrev pub idents_left : ℕ → Option Place → List Row → List Ident
idents_left most after rows = map row_ident (take most (filter is_free (rows_after after rows)))

pub idents_start : (most : ℕ) (rows : List Row) → idents_left most None rows ≡ free_idents most rows
idents_start most rows = ap (λ (rs : List Row). free_idents most rs) (rows_from_front rows)

take_none : {X : Type 0} (n : ℕ) → take {A = X} n [] ≡ []
take_none zero = refl
take_none (suc n) = refl

pub idents_none : (most : ℕ) (after : Option Place) (rows : List Row) → None ≡ find (is_free_after after) rows → idents_left most after rows ≡ []
idents_none most after rows e = ap (λ (rs : List Row). map row_ident (take most rs)) (free_none after rows e) ∙ ap (λ (rs : List Row). map row_ident rs) (take_none most)

joined : (xs ys : List Ident) (x : Ident) → (xs ++ x ∷ []) ++ ys ≡ xs ++ x ∷ ys
joined [] ys x = refl
joined (y ∷ xs) ys x = ap (λ (zs : List Ident). y ∷ zs) (joined xs ys x)

pub idents_next : (so_far : List Ident) (most n : ℕ) (after : Option Place) (rows : List Row) (row : Row) → AreInOrder rows → n < most → Some row ≡ find (is_free_after after) rows
    → (so_far ++ row.message.ident ∷ []) ++ idents_left (most - (n + 1)) (Some row.place) rows ≡ so_far ++ idents_left (most - n) after rows
idents_next so_far most n after rows row order lt e =
    let one : most - n ≡ suc (most - (n + 1)) = omega (arith, lt) in
    joined so_far (idents_left (most - (n + 1)) (Some row.place) rows) row.message.ident
    ∙ ap (λ (is : List Ident). so_far ++ is)
    (sym (ap (λ (rs : List Row). map row_ident (take (most - n) rs)) (free_next after rows row order e)
    ∙ ap (λ (k : ℕ). map row_ident (take k (row ∷ filter is_free (rows_after (Some row.place) rows)))) one))

nothing_more : (xs : List Ident) → xs ++ [] ≡ xs
nothing_more [] = refl
nothing_more (x ∷ xs) = ap (λ (zs : List Ident). x ∷ zs) (nothing_more xs)

pub idents_done : (xs ys : List Ident) → ys ≡ [] → xs ++ ys ≡ xs
idents_done xs ys e = ap (λ (zs : List Ident). xs ++ zs) e ∙ nothing_more xs

pub idents_all : (most n : ℕ) (after : Option Place) (rows : List Row) → most ≤ n → idents_left (most - n) after rows ≡ []
idents_all most n after rows le = let none : most - n ≡ 0 = omega (arith, le) in ap (λ (k : ℕ). idents_left k after rows) none

pub no_idents : (most : ℕ) → free_idents most [] ≡ []
no_idents zero = refl
no_idents (suc n) = refl
