-- What comes in, what stays and what is found, lane by lane, is what the queue's definition says.
use Rattle.std.proofs.Common.{◌≡◌, ℕ, zero, suc, ◌+◌, ◌<◌, ◌≤◌, nat_le, Bool, true, false, List, [], ◌∷◌, ◌++◌, refl, sym, ap, subst, ◌∙◌, arith}
use Rattle.std.specs.Prelude.{◌==◌, if◌then◌else◌, Option, Some, find}
use Rattle.std.specs.List.{AllByRecursion}
use Rattle.std.proofs.lemmas.Bool.Decides.{nat_tests}
use Rattle.mq_queue.specs.declared.row.Row.{Row}
use Rattle.mq_queue.specs.Rows.{insert_row, keep, retag}
use Rattle.mq_index.specs.Lanes.{found_from, in_lane, in_order, lanes_from, or_later}

-- KEEPING
keep_append : (test : Row → Bool) (xs ys : List Row) → keep test (xs ++ ys) ≡ keep test xs ++ keep test ys
keep_append test [] ys = refl
keep_append test (x ∷ xs) ys = by (test x) (keep_append test xs ys)
  where
    by : (b : Bool) → keep test (xs ++ ys) ≡ keep test xs ++ keep test ys → (if b then x ∷ keep test (xs ++ ys) else keep test (xs ++ ys)) ≡ (if b then x ∷ keep test xs else keep test xs) ++ keep test ys
    by true h = ap (λ (zs : List Row). x ∷ zs) h
    by false h = h

keep_swap : (a b : Row → Bool) (xs : List Row) → keep a (keep b xs) ≡ keep b (keep a xs)
keep_swap a b [] = refl
keep_swap a b (x ∷ xs) = by (a x) (b x) refl refl (keep_swap a b xs)
  where
    by : (p q : Bool) → a x ≡ p → b x ≡ q → keep a (keep b xs) ≡ keep b (keep a xs) → keep a (if q then x ∷ keep b xs else keep b xs) ≡ keep b (if p then x ∷ keep a xs else keep a xs)
    by true true e f h = ap (λ (t : Bool). if t then x ∷ keep a (keep b xs) else keep a (keep b xs)) e ∙ ap (λ (zs : List Row). x ∷ zs) h ∙ sym (ap (λ (t : Bool). if t then x ∷ keep b (keep a xs) else keep b (keep a xs)) f)
    by true false e f h = h ∙ sym (ap (λ (t : Bool). if t then x ∷ keep b (keep a xs) else keep b (keep a xs)) f)
    by false true e f h = ap (λ (t : Bool). if t then x ∷ keep a (keep b xs) else keep a (keep b xs)) e ∙ h
    by false false e f h = h

lanes_keep : (test : Row → Bool) (left lane : ℕ) (rows : List Row) → lanes_from left lane (keep test rows) ≡ keep test (lanes_from left lane rows)
lanes_keep test zero lane rows = refl
lanes_keep test (suc left) lane rows =
    ap (λ (zs : List Row). zs ++ lanes_from left (suc lane) (keep test rows)) (keep_swap (in_lane lane) test rows)
    ∙ ap (λ (zs : List Row). keep test (keep (in_lane lane) rows) ++ zs) (lanes_keep test left (suc lane) rows)
    ∙ sym (keep_append test (keep (in_lane lane) rows) (lanes_from left (suc lane) rows))

pub order_keep : (test : Row → Bool) (rows : List Row) → in_order (keep test rows) ≡ keep test (in_order rows)
order_keep test rows = lanes_keep test 10 0 rows

-- RETAGGING
retag_append : (change : Row → Row) (xs ys : List Row) → retag change (xs ++ ys) ≡ retag change xs ++ retag change ys
retag_append change [] ys = refl
retag_append change (x ∷ xs) ys = ap (λ (zs : List Row). change x ∷ zs) (retag_append change xs ys)

abbrev pub KeepsLanes : (Row → Row) → Type 0
KeepsLanes change = (row : Row) → (change row).place.lane ≡ row.place.lane

lane_retag : (change : Row → Row) (lane : ℕ) (rows : List Row) → KeepsLanes change → keep (in_lane lane) (retag change rows) ≡ retag change (keep (in_lane lane) rows)
lane_retag change lane [] stays = refl
lane_retag change lane (x ∷ xs) stays =
    ap (λ (n : ℕ). if n == lane then change x ∷ keep (in_lane lane) (retag change xs) else keep (in_lane lane) (retag change xs)) (stays x) ∙ by (x.place.lane == lane) (lane_retag change lane xs stays)
  where
    by : (b : Bool) → keep (in_lane lane) (retag change xs) ≡ retag change (keep (in_lane lane) xs)
        → (if b then change x ∷ keep (in_lane lane) (retag change xs) else keep (in_lane lane) (retag change xs)) ≡ retag change (if b then x ∷ keep (in_lane lane) xs else keep (in_lane lane) xs)
    by true h = ap (λ (zs : List Row). change x ∷ zs) h
    by false h = h

lanes_retag : (change : Row → Row) (left lane : ℕ) (rows : List Row) → KeepsLanes change → lanes_from left lane (retag change rows) ≡ retag change (lanes_from left lane rows)
lanes_retag change zero lane rows stays = refl
lanes_retag change (suc left) lane rows stays =
    ap (λ (zs : List Row). zs ++ lanes_from left (suc lane) (retag change rows)) (lane_retag change lane rows stays)
    ∙ ap (λ (zs : List Row). retag change (keep (in_lane lane) rows) ++ zs) (lanes_retag change left (suc lane) rows stays)
    ∙ sym (retag_append change (keep (in_lane lane) rows) (lanes_from left (suc lane) rows))

pub order_retag : (change : Row → Row) (rows : List Row) → KeepsLanes change → in_order (retag change rows) ≡ retag change (in_order rows)
order_retag change rows stays = lanes_retag change 10 0 rows stays

-- PLACING: a row passes those of its lane and of the lanes before, and comes before the others
low_ones : (row : Row) (xs ys : List Row) → AllByRecursion (λ (x : Row). nat_le x.place.lane row.place.lane ≡ true) xs → insert_row row (xs ++ ys) ≡ xs ++ insert_row row ys
low_ones row [] ys all = refl
low_ones row (x ∷ xs) ys all =
    ap (λ (b : Bool). if b then x ∷ insert_row row (xs ++ ys) else row ∷ x ∷ (xs ++ ys)) all.0 ∙ ap (λ (zs : List Row). x ∷ zs) (low_ones row xs ys all.1)

before_high : (row : Row) (xs : List Row) → AllByRecursion (λ (x : Row). nat_le x.place.lane row.place.lane ≡ false) xs → insert_row row xs ≡ row ∷ xs
before_high row [] all = refl
before_high row (x ∷ xs) all = ap (λ (b : Bool). if b then x ∷ insert_row row xs else row ∷ x ∷ xs) all.0

lane_all : (P : ℕ → Type 0) (lane : ℕ) (rows : List Row) → P lane → AllByRecursion (λ (x : Row). P x.place.lane) (keep (in_lane lane) rows)
lane_all P lane [] p = tt
lane_all P lane (x ∷ xs) p = by (x.place.lane == lane) refl (lane_all P lane xs p)
  where
    are_same : (a b : ℕ) → (a == b) ≡ true → b ≡ a
    are_same a b e = grind (arith, nat_tests)

    by : (b : Bool) → (x.place.lane == lane) ≡ b → AllByRecursion (λ (y : Row). P y.place.lane) (keep (in_lane lane) xs) → AllByRecursion (λ (y : Row). P y.place.lane) (if b then x ∷ keep (in_lane lane) xs else keep (in_lane lane) xs)
    by true e h = (subst P (are_same x.place.lane lane e) p, h)
    by false e h = h

all_append : (P : Row → Type 0) (xs ys : List Row) → AllByRecursion P xs → AllByRecursion P ys → AllByRecursion P (xs ++ ys)
all_append P [] ys a b = b
all_append P (x ∷ xs) ys a b = (a.0, all_append P xs ys a.1 b)

past_all : (least left lane : ℕ) (rows : List Row) → least < lane → AllByRecursion (λ (x : Row). nat_le x.place.lane least ≡ false) (lanes_from left lane rows)
past_all least zero lane rows lt = tt
past_all least (suc left) lane rows lt =
    all_append (λ (x : Row). nat_le x.place.lane least ≡ false) (keep (in_lane lane) rows) (lanes_from left (suc lane) rows) (lane_all (λ (n : ℕ). nat_le n least ≡ false) lane rows (above lane least lt)) (past_all least left (suc lane) rows (omega (arith, lt)))
  where
    above : (a b : ℕ) → b < a → nat_le a b ≡ false
    above a b h = grind (arith, nat_tests, h)

append_assoc : (xs ys zs : List Row) → (xs ++ ys) ++ zs ≡ xs ++ (ys ++ zs)
append_assoc [] ys zs = refl
append_assoc (x ∷ xs) ys zs = ap (λ (l : List Row). x ∷ l) (append_assoc xs ys zs)

append_none : (xs : List Row) → xs ++ [] ≡ xs
append_none [] = refl
append_none (x ∷ xs) = ap (λ (l : List Row). x ∷ l) (append_none xs)

-- another lane doesn't see it
lane_other : (lane : ℕ) (row : Row) (rows : List Row) → (row.place.lane == lane) ≡ false → keep (in_lane lane) (rows ++ row ∷ []) ≡ keep (in_lane lane) rows
lane_other lane row rows e =
    keep_append (in_lane lane) rows (row ∷ []) ∙ ap (λ (b : Bool). keep (in_lane lane) rows ++ (if b then row ∷ [] else [])) e ∙ append_none (keep (in_lane lane) rows)

lane_own : (lane : ℕ) (row : Row) (rows : List Row) → (row.place.lane == lane) ≡ true → keep (in_lane lane) (rows ++ row ∷ []) ≡ keep (in_lane lane) rows ++ row ∷ []
lane_own lane row rows e = keep_append (in_lane lane) rows (row ∷ []) ∙ ap (λ (b : Bool). keep (in_lane lane) rows ++ (if b then row ∷ [] else [])) e

lanes_past : (left lane : ℕ) (row : Row) (rows : List Row) → row.place.lane < lane → lanes_from left lane (rows ++ row ∷ []) ≡ lanes_from left lane rows
lanes_past zero lane row rows lt = refl
lanes_past (suc left) lane row rows lt =
    ap (λ (zs : List Row). zs ++ lanes_from left (suc lane) (rows ++ row ∷ [])) (lane_other lane row rows (apart row.place.lane lane lt))
    ∙ ap (λ (zs : List Row). keep (in_lane lane) rows ++ zs) (lanes_past left (suc lane) row rows (omega (arith, lt)))
  where
    apart : (a b : ℕ) → a < b → (a == b) ≡ false
    apart a b h = grind (arith, nat_tests, h)

lanes_insert : (left lane : ℕ) (row : Row) (rows : List Row) → lane ≤ row.place.lane → row.place.lane < lane + left → lanes_from left lane (rows ++ row ∷ []) ≡ insert_row row (lanes_from left lane rows)
lanes_insert zero lane row rows low high = absurd (no lane row.place.lane low high)
  where
    no : (a b : ℕ) → a ≤ b → b < a + 0 → ⊥
    no a b p q = omega (arith, p, q)
lanes_insert (suc left) lane row rows low high = by (row.place.lane == lane) refl (λ less far. lanes_insert left (suc lane) row rows less far)
  where
    are_same : (a b : ℕ) → (a == b) ≡ true → a ≡ b
    are_same a b e = grind (arith, nat_tests)

    at_most : (a b : ℕ) → a ≤ b → nat_le a b ≡ true
    at_most a b h = grind (arith, nat_tests, h)

    less : (a b : ℕ) → a ≤ b → (b == a) ≡ false → a < b
    less a b h e = grind (arith, nat_tests, h, e)

    passes : insert_row row (lanes_from (suc left) lane rows) ≡ keep (in_lane lane) rows ++ insert_row row (lanes_from left (suc lane) rows)
    passes = low_ones row (keep (in_lane lane) rows) (lanes_from left (suc lane) rows) (lane_all (λ (n : ℕ). nat_le n row.place.lane ≡ true) lane rows (at_most lane row.place.lane low))

    by : (b : Bool) → (row.place.lane == lane) ≡ b → (suc lane ≤ row.place.lane → row.place.lane < suc lane + left → lanes_from left (suc lane) (rows ++ row ∷ []) ≡ insert_row row (lanes_from left (suc lane) rows))
        → lanes_from (suc left) lane (rows ++ row ∷ []) ≡ insert_row row (lanes_from (suc left) lane rows)
    by true e later =
        let same : row.place.lane ≡ lane = are_same row.place.lane lane e in
        ap (λ (zs : List Row). zs ++ lanes_from left (suc lane) (rows ++ row ∷ [])) (lane_own lane row rows e)
        ∙ ap (λ (zs : List Row). (keep (in_lane lane) rows ++ row ∷ []) ++ zs) (lanes_past left (suc lane) row rows (omega (arith, same)))
        ∙ append_assoc (keep (in_lane lane) rows) (row ∷ []) (lanes_from left (suc lane) rows)
        ∙ ap (λ (zs : List Row). keep (in_lane lane) rows ++ zs) (sym (before_high row (lanes_from left (suc lane) rows) (past_all row.place.lane left (suc lane) rows (omega (arith, same)))))
        ∙ sym passes
    by false e later =
        ap (λ (zs : List Row). zs ++ lanes_from left (suc lane) (rows ++ row ∷ [])) (lane_other lane row rows e)
        ∙ ap (λ (zs : List Row). keep (in_lane lane) rows ++ zs) (later (less lane row.place.lane low e) (omega (arith, high)))
        ∙ sym passes

pub order_insert : (row : Row) (rows : List Row) → row.place.lane < 10 → in_order (rows ++ row ∷ []) ≡ insert_row row (in_order rows)
order_insert row rows lt = lanes_insert 10 0 row rows (omega arith) (omega (arith, lt))

-- FINDING
find_append : (test : Row → Bool) (xs ys : List Row) → find test (xs ++ ys) ≡ or_later (find test xs) (find test ys)
find_append test [] ys = refl
find_append test (x ∷ xs) ys = by (test x) (find_append test xs ys)
  where
    by : (b : Bool) → find test (xs ++ ys) ≡ or_later (find test xs) (find test ys) → (if b then Some x else find test (xs ++ ys)) ≡ or_later (if b then Some x else find test xs) (find test ys)
    by true h = refl
    by false h = h

lanes_find : (test : Row → Bool) (left lane : ℕ) (rows : List Row) → find test (lanes_from left lane rows) ≡ found_from test left lane rows
lanes_find test zero lane rows = refl
lanes_find test (suc left) lane rows =
    find_append test (keep (in_lane lane) rows) (lanes_from left (suc lane) rows) ∙ ap (λ (o : Option Row). or_later (find test (keep (in_lane lane) rows)) o) (lanes_find test left (suc lane) rows)

pub order_find : (test : Row → Bool) (rows : List Row) → find test (in_order rows) ≡ found_from test 10 0 rows
order_find test rows = lanes_find test 10 0 rows

-- and of rows that another test lets pass, where none passes without
pub find_kept : (test wide : Row → Bool) (rows : List Row) → ((row : Row) → test row ≡ true → wide row ≡ true) → find test rows ≡ find test (keep wide rows)
find_kept test wide [] h = refl
find_kept test wide (x ∷ xs) h = by (test x) (wide x) refl refl (find_kept test wide xs h)
  where
    by : (p q : Bool) → test x ≡ p → wide x ≡ q → find test xs ≡ find test (keep wide xs) → (if p then Some x else find test xs) ≡ find test (if q then x ∷ keep wide xs else keep wide xs)
    by true true e f k = sym (ap (λ (b : Bool). if b then Some x else find test (keep wide xs)) e)
    by true false e f k = absurd (let no : false ≡ true = sym f ∙ h x e in cc)
    by false true e f k = k ∙ sym (ap (λ (b : Bool). if b then Some x else find test (keep wide xs)) e)
    by false false e f k = k
