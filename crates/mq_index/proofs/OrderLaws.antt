-- What is done to one slot is done to the queue's rows: lane by lane, each in order of arrival.
use Rattle.std.proofs.Common.{◌≡◌, ℕ, zero, suc, ◌+◌, ◌<◌, ◌≤◌, Bool, true, false, cond, List, [], ◌∷◌, ◌++◌, length, take, get_or, refl, sym, ap, ◌∙◌, arith}
use Rattle.std.specs.Prelude.{◌==◌, ◌||◌, if◌then◌else◌, Option, None, Some, find, slice_get, slice_set}
use Rattle.std.specs.List.{list_any}
use Rattle.std.proofs.lemmas.Bool.Decides.{nat_tests}
use Rattle.std.proofs.lemmas.List.{length-take}
use Rattle.std.proofs.lemmas.List.Recursion.{is_count_by}
use Rattle.mq_queue.specs.declared.row.Row.{Row}
use Rattle.mq_queue.specs.Rows.{keep, retag}
use Rattle.mq_queue.specs.Queues.{count_waiting, is_waiting}
use Rattle.mq_queue.specs.Counts.{weight}
use Rattle.mq_index.specs.Lanes.{found_from, in_lane, in_order, lanes_from}
use Rattle.mq_index.specs.Slots.{AreLow, one, slot_weight, total}
use Rattle.mq_index.specs.Walks.{NoneAtAll, stored}
use Rattle.mq_index.proofs.SlotLaws.{small_weight, total_long}
use Rattle.mq_index.proofs.LaneLaws.{find_kept, order_find, order_insert, order_keep, order_retag}
use Rattle.mq_index.proofs.ListLaws.{some_is}

-- SUMS
abbrev pub sum : (Row → ℕ) → List Row → ℕ
sum w [] = 0
sum w (x ∷ xs) = w x + sum w xs

sum_append : (w : Row → ℕ) (xs ys : List Row) → sum w (xs ++ ys) ≡ sum w xs + sum w ys
sum_append w [] ys = omega arith
sum_append w (x ∷ xs) ys = let h = sum_append w xs ys in omega (arith, h)

sum_past : (w : Row → ℕ) (x : Row) (xs : List Row) (left lane : ℕ) → x.place.lane < lane → lanes_from left lane (x ∷ xs) ≡ lanes_from left lane xs
sum_past w x xs zero lane lt = refl
sum_past w x xs (suc left) lane lt =
    ap (λ (b : Bool). (if b then x ∷ keep (in_lane lane) xs else keep (in_lane lane) xs) ++ lanes_from left (suc lane) (x ∷ xs)) (apart x.place.lane lane lt)
    ∙ ap (λ (zs : List Row). keep (in_lane lane) xs ++ zs) (sum_past w x xs left (suc lane) (omega (arith, lt)))
  where
    apart : (a b : ℕ) → a < b → (a == b) ≡ false
    apart a b h = grind (arith, nat_tests, h)

sum_lanes : (w : Row → ℕ) (x : Row) (xs : List Row) (left lane : ℕ) → lane ≤ x.place.lane → x.place.lane < lane + left → sum w (lanes_from left lane (x ∷ xs)) ≡ w x + sum w (lanes_from left lane xs)
sum_lanes w x xs zero lane low high = absurd (none lane x.place.lane low high)
  where
    none : (a b : ℕ) → a ≤ b → b < a + 0 → ⊥
    none a b p q = omega (arith, p, q)
sum_lanes w x xs (suc left) lane low high = by (x.place.lane == lane) refl (λ less far. sum_lanes w x xs left (suc lane) less far)
  where
    are_same : (a b : ℕ) → (a == b) ≡ true → a ≡ b
    are_same a b e = grind (arith, nat_tests)

    less : (a b : ℕ) → a ≤ b → (b == a) ≡ false → a < b
    less a b h e = grind (arith, nat_tests, h, e)

    by : (b : Bool) → (x.place.lane == lane) ≡ b → (suc lane ≤ x.place.lane → x.place.lane < suc lane + left → sum w (lanes_from left (suc lane) (x ∷ xs)) ≡ w x + sum w (lanes_from left (suc lane) xs))
        → sum w (lanes_from (suc left) lane (x ∷ xs)) ≡ w x + sum w (lanes_from (suc left) lane xs)
    by true e later =
        let same : x.place.lane ≡ lane = are_same x.place.lane lane e in
        ap (λ (b : Bool). sum w ((if b then x ∷ keep (in_lane lane) xs else keep (in_lane lane) xs) ++ lanes_from left (suc lane) (x ∷ xs))) e
        ∙ ap (λ (zs : List Row). w x + sum w (keep (in_lane lane) xs ++ zs)) (sum_past w x xs left (suc lane) (omega (arith, same)))
    by false e later =
        let h = later (less lane x.place.lane low e) (omega (arith, high)) in
        let a = sum_append w (keep (in_lane lane) xs) (lanes_from left (suc lane) (x ∷ xs)) in
        let b = sum_append w (keep (in_lane lane) xs) (lanes_from left (suc lane) xs) in
        ap (λ (b : Bool). sum w ((if b then x ∷ keep (in_lane lane) xs else keep (in_lane lane) xs) ++ lanes_from left (suc lane) (x ∷ xs))) e ∙ omega (arith, h, a, b)

pub sum_order : (w : Row → ℕ) (slots : List (Option Row)) → AreLow slots → sum w (in_order (stored slots)) ≡ total w slots
sum_order w [] low = none 10 0
  where
    none : (left lane : ℕ) → sum w (lanes_from left lane []) ≡ 0
    none zero lane = refl
    none (suc left) lane = none left (suc lane)
sum_order w (None ∷ slots) low = sum_order w slots (λ i r e. low (suc i) r e)
sum_order w (Some x ∷ slots) low =
    let h = sum_order w slots (λ i r e. low (suc i) r e) in
    let g = sum_lanes w x (stored slots) 10 0 (omega arith) (omega (arith, low 0 x refl)) in
    omega (arith, h, g)

pub order_long : (slots : List (Option Row)) → AreLow slots → total one slots ≡ length (in_order (stored slots))
order_long slots low = sym (sum_order one slots low) ∙ long (in_order (stored slots))
  where
    long : (xs : List Row) → sum one xs ≡ length xs
    long [] = refl
    long (x ∷ xs) = let h = long xs in omega (arith, h)

abbrev tally : (Row → Bool) → List Row → ℕ
tally p [] = 0
tally p (x ∷ xs) = cond (p x) (1 + tally p xs) (tally p xs)

pub order_count : (least : ℕ) (slots : List (Option Row)) → AreLow slots → total (weight least) slots ≡ count_waiting least (in_order (stored slots))
order_count least slots low = sym (sum_order (weight least) slots low) ∙ tallied (in_order (stored slots)) ∙ is_count_by (tally (is_waiting least)) (is_waiting least) refl (λ x xs. refl) (in_order (stored slots))
  where
    step : (b : Bool) (n m : ℕ) → n ≡ m → (if b then 1 else 0) + n ≡ cond b (1 + m) m
    step true n m e = omega (arith, e)
    step false n m e = omega (arith, e)

    tallied : (xs : List Row) → sum (weight least) xs ≡ tally (is_waiting least) xs
    tallied [] = refl
    tallied (x ∷ xs) = step (is_waiting least x) (sum (weight least) xs) (tally (is_waiting least) xs) (tallied xs)

-- by a walk over the slots
sum_step : (least : ℕ) (slots : List (Option Row)) (at : ℕ) (slot : Option Row) → at < length slots → slot ≡ get_or slots at slot → total (weight least) (take (suc at) slots) ≡ total (weight least) (take at slots) + slot_weight least slot
sum_step least [] at slot lt e = absurd (omega (arith, lt))
sum_step least (None ∷ slots) zero slot lt e = let h : slot_weight least slot ≡ 0 = ap (slot_weight least) e in omega (arith, h)
sum_step least (Some x ∷ slots) zero slot lt e = let h : slot_weight least slot ≡ weight least x = ap (slot_weight least) e in omega (arith, h)
sum_step least (None ∷ slots) (suc at) slot lt e = sum_step least slots at slot (omega (arith, lt)) e
sum_step least (Some x ∷ slots) (suc at) slot lt e = let h = sum_step least slots at slot (omega (arith, lt)) e in omega (arith, h)

pub sum_next : (least : ℕ) (slots : List (Option Row)) (at : ℕ) (slot : Option Row) → at < length slots → slot ≡ get_or slots at slot → total (weight least) (take (at + 1) slots) ≡ total (weight least) (take at slots) + slot_weight least slot
sum_next least slots at slot lt e = let n : at + 1 ≡ suc at = omega arith in ap (λ (k : ℕ). total (weight least) (take k slots)) n ∙ sum_step least slots at slot lt e

-- ONE SLOT
pub stored_more : (slots : List (Option Row)) (row : Row) → stored (slots ++ Some row ∷ []) ≡ stored slots ++ row ∷ []
stored_more [] row = refl
stored_more (None ∷ slots) row = stored_more slots row
stored_more (Some x ∷ slots) row = ap (λ (rs : List Row). x ∷ rs) (stored_more slots row)

-- only this slot's row passes
abbrev pub IsOnlyOne : (Row → Bool) → List (Option Row) → ℕ → Type 0
IsOnlyOne test slots at = (j : ℕ) (r : Row) → slice_get slots j ≡ Some (Some r) → test r ≡ true → j ≡ at

no_suc : (j : ℕ) → suc j ≡ 0 → ⊥
no_suc j e = omega (arith, e)

pub or_not : (b : Bool) → (b ≡ true → ⊥) → b ≡ false
or_not true never = absurd (never refl)
or_not false never = refl

pub none_kept : (test : Row → Bool) (slots : List (Option Row)) → NoneAtAll test slots → keep test (stored slots) ≡ []
none_kept test [] none = refl
none_kept test (None ∷ slots) none = none_kept test slots (λ j r e. none (suc j) r e)
none_kept test (Some x ∷ slots) none = ap (λ (b : Bool). if b then x ∷ keep test (stored slots) else keep test (stored slots)) (none 0 x refl) ∙ none_kept test slots (λ j r e. none (suc j) r e)

pub one_kept : (test : Row → Bool) (slots : List (Option Row)) (at : ℕ) (row : Row) → slice_get slots at ≡ Some (Some row) → test row ≡ true → IsOnlyOne test slots at → keep test (stored slots) ≡ row ∷ []
one_kept test [] zero row e t only = absurd cc
one_kept test [] (suc at) row e t only = absurd cc
one_kept test (None ∷ slots) zero row e t only = absurd cc
one_kept test (None ∷ slots) (suc at) row e t only = one_kept test slots at row e t (λ j r there pass. down j at (only (suc j) r there pass))
  where
    down : (a b : ℕ) → suc a ≡ suc b → a ≡ b
    down a b h = omega (arith, h)
one_kept test (Some x ∷ slots) zero row e t only =
    let same : x ≡ row = some_is x row (some_is (Some x) (Some row) e) in
    ap (λ (b : Bool). if b then x ∷ keep test (stored slots) else keep test (stored slots)) (ap test same ∙ t)
    ∙ ap (λ (rs : List Row). x ∷ rs) (none_kept test slots (λ j r there. or_not (test r) (λ pass. no_suc j (only (suc j) r there pass)))) ∙ ap (λ (r : Row). r ∷ []) same
one_kept test (Some x ∷ slots) (suc at) row e t only =
    ap (λ (b : Bool). if b then x ∷ keep test (stored slots) else keep test (stored slots)) (or_not (test x) (λ pass. no_suc at (sym (only 0 x refl pass))))
    ∙ one_kept test slots at row e t (λ j r there pass. down j at (only (suc j) r there pass))
  where
    down : (a b : ℕ) → suc a ≡ suc b → a ≡ b
    down a b h = omega (arith, h)

-- what passes is found where only one slot's row passes
keep_order : (test : Row → Bool) (slots : List (Option Row)) (at : ℕ) (row : Row) → row.place.lane < 10 → slice_get slots at ≡ Some (Some row) → test row ≡ true → IsOnlyOne test slots at → keep test (in_order (stored slots)) ≡ row ∷ []
keep_order test slots at row low e t only = sym (order_keep test (stored slots)) ∙ ap in_order (one_kept test slots at row e t only) ∙ order_insert row [] low

keep_order_none : (test : Row → Bool) (slots : List (Option Row)) → NoneAtAll test slots → keep test (in_order (stored slots)) ≡ []
keep_order_none test slots none = sym (order_keep test (stored slots)) ∙ ap in_order (none_kept test slots none)

pub found_one : (test : Row → Bool) (slots : List (Option Row)) (at : ℕ) (row : Row) → row.place.lane < 10 → slice_get slots at ≡ Some (Some row) → test row ≡ true → IsOnlyOne test slots at → find test (in_order (stored slots)) ≡ Some row
found_one test slots at row low e t only =
    find_kept test test (in_order (stored slots)) (λ r p. p) ∙ ap (find test) (keep_order test slots at row low e t only) ∙ ap (λ (b : Bool). if b then Some row else None) t

pub found_none : (test : Row → Bool) (slots : List (Option Row)) → NoneAtAll test slots → find test (in_order (stored slots)) ≡ None
found_none test slots none = find_kept test test (in_order (stored slots)) (λ r p. p) ∙ ap (find test) (keep_order_none test slots none)

any_kept : (test wide : Row → Bool) (rows : List Row) → ((row : Row) → test row ≡ true → wide row ≡ true) → list_any test rows ≡ list_any test (keep wide rows)
any_kept test wide [] sub = refl
any_kept test wide (x ∷ xs) sub = by (test x) (wide x) refl refl (any_kept test wide xs sub)
  where
    clash : {P : Type 0} (b : Bool) → b ≡ true → b ≡ false → P
    clash b e f = absurd cc

    by : (b c : Bool) → test x ≡ b → wide x ≡ c → list_any test xs ≡ list_any test (keep wide xs) → (b || list_any test xs) ≡ list_any test (if c then x ∷ keep wide xs else keep wide xs)
    by true true e f h = ap (λ (t : Bool). t || list_any test (keep wide xs)) (sym e)
    by false true e f h = h ∙ ap (λ (t : Bool). t || list_any test (keep wide xs)) (sym e)
    by true false e f h = clash (wide x) (sub x e) f
    by false false e f h = h

or_false : (b : Bool) → (b || false) ≡ b
or_false true = refl
or_false false = refl

-- whether one passes a narrower test
pub any_one : (test wide : Row → Bool) (slots : List (Option Row)) (at : ℕ) (row : Row) → ((r : Row) → test r ≡ true → wide r ≡ true) → row.place.lane < 10 → slice_get slots at ≡ Some (Some row) → wide row ≡ true → IsOnlyOne wide slots at → list_any test (in_order (stored slots)) ≡ test row
any_one test wide slots at row sub low e t only = any_kept test wide (in_order (stored slots)) sub ∙ ap (list_any test) (keep_order wide slots at row low e t only) ∙ or_false (test row)

pub any_none : (test wide : Row → Bool) (slots : List (Option Row)) → ((r : Row) → test r ≡ true → wide r ≡ true) → NoneAtAll wide slots → list_any test (in_order (stored slots)) ≡ false
any_none test wide slots sub none = any_kept test wide (in_order (stored slots)) sub ∙ ap (list_any test) (keep_order_none wide slots none)

-- ONE GOES
others : (test : Row → Bool) (slots : List (Option Row)) → ((j : ℕ) (r : Row) → slice_get slots j ≡ Some (Some r) → test r ≡ true) → keep test (stored slots) ≡ stored slots
others test [] all = refl
others test (None ∷ slots) all = others test slots (λ j r e. all (suc j) r e)
others test (Some x ∷ slots) all = ap (λ (b : Bool). if b then x ∷ keep test (stored slots) else keep test (stored slots)) (all 0 x refl) ∙ ap (λ (rs : List Row). x ∷ rs) (others test slots (λ j r e. all (suc j) r e))

less : (n m : ℕ) → (n == m) ≡ false → (suc n == suc m) ≡ false
less n m e = grind (arith, nat_tests)

first_other : (n : ℕ) → (0 == suc n) ≡ false
first_other n = grind (arith, nat_tests)

other_first : (n : ℕ) → (suc n == 0) ≡ false
other_first n = grind (arith, nat_tests)

gone_one : (test : Row → Bool) (slots : List (Option Row)) (at : ℕ) (row : Row) → slice_get slots at ≡ Some (Some row) → test row ≡ false → ((j : ℕ) (r : Row) → (j == at) ≡ false → slice_get slots j ≡ Some (Some r) → test r ≡ true) → keep test (stored slots) ≡ stored (slice_set slots at None)
gone_one test [] zero row e t all = refl
gone_one test [] (suc at) row e t all = refl
gone_one test (None ∷ slots) zero row e t all = absurd cc
gone_one test (None ∷ slots) (suc at) row e t all = gone_one test slots at row e t (λ j r d there. all (suc j) r (less j at d) there)
gone_one test (Some x ∷ slots) zero row e t all =
    let same : x ≡ row = some_is x row (some_is (Some x) (Some row) e) in
    ap (λ (b : Bool). if b then x ∷ keep test (stored slots) else keep test (stored slots)) (ap test same ∙ t) ∙ others test slots (λ j r there. all (suc j) r (other_first j) there)
gone_one test (Some x ∷ slots) (suc at) row e t all =
    ap (λ (b : Bool). if b then x ∷ keep test (stored slots) else keep test (stored slots)) (all 0 x (first_other at) refl) ∙ ap (λ (rs : List Row). x ∷ rs) (gone_one test slots at row e t (λ j r d there. all (suc j) r (less j at d) there))

pub order_gone : (test : Row → Bool) (slots : List (Option Row)) (at : ℕ) (row : Row) → slice_get slots at ≡ Some (Some row) → test row ≡ false → ((j : ℕ) (r : Row) → (j == at) ≡ false → slice_get slots j ≡ Some (Some r) → test r ≡ true) → in_order (stored (slice_set slots at None)) ≡ keep test (in_order (stored slots))
order_gone test slots at row e t all = ap in_order (sym (gone_one test slots at row e t all)) ∙ order_keep test (stored slots)

pub order_same : (test : Row → Bool) (slots : List (Option Row)) → ((j : ℕ) (r : Row) → slice_get slots j ≡ Some (Some r) → test r ≡ true) → in_order (stored slots) ≡ keep test (in_order (stored slots))
order_same test slots all = ap in_order (sym (others test slots all)) ∙ order_keep test (stored slots)

-- ONE CHANGES
abbrev pub KeepLanes : (Row → Row) → Type 0
KeepLanes change = (row : Row) → (change row).place.lane ≡ row.place.lane

fixed : (change : Row → Row) (slots : List (Option Row)) → ((j : ℕ) (r : Row) → slice_get slots j ≡ Some (Some r) → change r ≡ r) → retag change (stored slots) ≡ stored slots
fixed change [] all = refl
fixed change (None ∷ slots) all = fixed change slots (λ j r e. all (suc j) r e)
fixed change (Some x ∷ slots) all = ap (λ (r : Row). r ∷ retag change (stored slots)) (all 0 x refl) ∙ ap (λ (rs : List Row). x ∷ rs) (fixed change slots (λ j r e. all (suc j) r e))

changed_one : (change : Row → Row) (slots : List (Option Row)) (at : ℕ) (row : Row) → slice_get slots at ≡ Some (Some row) → ((j : ℕ) (r : Row) → (j == at) ≡ false → slice_get slots j ≡ Some (Some r) → change r ≡ r) → retag change (stored slots) ≡ stored (slice_set slots at (Some (change row)))
changed_one change [] zero row e all = absurd cc
changed_one change [] (suc at) row e all = absurd cc
changed_one change (None ∷ slots) zero row e all = absurd cc
changed_one change (None ∷ slots) (suc at) row e all = changed_one change slots at row e (λ j r d there. all (suc j) r (less j at d) there)
changed_one change (Some x ∷ slots) zero row e all =
    let same : x ≡ row = some_is x row (some_is (Some x) (Some row) e) in
    ap (λ (r : Row). change r ∷ retag change (stored slots)) same ∙ ap (λ (rs : List Row). change row ∷ rs) (fixed change slots (λ j r there. all (suc j) r (other_first j) there))
changed_one change (Some x ∷ slots) (suc at) row e all =
    ap (λ (r : Row). r ∷ retag change (stored slots)) (all 0 x (first_other at) refl) ∙ ap (λ (rs : List Row). x ∷ rs) (changed_one change slots at row e (λ j r d there. all (suc j) r (less j at d) there))

pub order_changed : (change : Row → Row) (slots : List (Option Row)) (at : ℕ) (row : Row) → KeepLanes change → slice_get slots at ≡ Some (Some row) → ((j : ℕ) (r : Row) → (j == at) ≡ false → slice_get slots j ≡ Some (Some r) → change r ≡ r)
    → in_order (stored (slice_set slots at (Some (change row)))) ≡ retag change (in_order (stored slots))
order_changed change slots at row k e all = ap in_order (sym (changed_one change slots at row e all)) ∙ order_retag change (stored slots) k

pub order_fixed : (change : Row → Row) (slots : List (Option Row)) → KeepLanes change → ((j : ℕ) (r : Row) → slice_get slots j ≡ Some (Some r) → change r ≡ r) → in_order (stored slots) ≡ retag change (in_order (stored slots))
order_fixed change slots k all = ap in_order (sym (fixed change slots all)) ∙ order_retag change (stored slots) k

-- THE LANES
pub found_start : (test : Row → Bool) (slots : List (Option Row)) → find test (in_order (stored slots)) ≡ found_from test 10 0 (stored slots)
found_start test slots = order_find test (stored slots)

pub sum_fits : (least : ℕ) (slots : List (Option Row)) (n : ℕ) → total (weight least) (take n slots) ≤ length slots
sum_fits least slots n =
    let t = total_long (weight least) (take n slots) (small_weight least) in
    let l = length-take n slots in
    omega (arith, t, l)
