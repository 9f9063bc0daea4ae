-- The first kept item that is due goes out.
use Rattle.std.proofs.Common.{◌≡◌, ℕ, suc, ◌+◌, ◌<◌, ◌≤◌, Bool, true, false, List, [], ◌∷◌, length, refl, sym, ap, arith}
use Rattle.std.specs.Prelude.{position, Some, None, map, filter, slice_get}
use Rattle.std.specs.List.{position_or_len, remove}
use Rattle.std.proofs.lemmas.Bool.Decides.{nat_tests}
use Rattle.mq_cable.specs.declared.push.Kept.{Kept}
use Rattle.std.proofs.lemmas.List.Filters.{length-filter_both}
use Rattle.mq_cable.specs.Offers.{is_due, is_left, item_of, due_of}

remove_next : {X : Type 0} (x : X) (xs : List X) (i : ℕ) → remove (x ∷ xs) (1 + i) ≡ x ∷ remove xs i
remove_next x xs i = let e : 1 + i ≡ suc i = omega arith in rw e refl

pub place_some : (test : Kept → Bool) (kept : List Kept) (i : ℕ) → position test kept ≡ Some i → (i ≡ position_or_len test kept) × (i < length kept)
place_some test kept i e = grind (arith, nat_tests)

pub place_none : (test : Kept → Bool) (kept : List Kept) → position test kept ≡ None → length kept ≤ position_or_len test kept
place_none test kept e = grind (arith, nat_tests)

none_step : (test : Kept → Bool) (x : Kept) (xs : List Kept) → (length xs ≤ position_or_len test xs → filter test xs ≡ []) → (t : Bool) → test x ≡ t → length (x ∷ xs) ≤ position_or_len test (x ∷ xs) → filter test (x ∷ xs) ≡ []
none_step test x xs ih true e le = absurd (omega (arith, rw e at le))
none_step test x xs ih false e le = rw e (ih (omega (arith, rw e at le)))

pub none_pass : (test : Kept → Bool) (kept : List Kept) → length kept ≤ position_or_len test kept → filter test kept ≡ []
none_pass test [] le = refl
none_pass test (x ∷ xs) le = none_step test x xs (none_pass test xs) (test x) refl le

one_some : (x y : Kept) → Some x ≡ Some y → x ≡ y
one_some x y e = cc

abbrev at : ℕ → List Kept → ℕ
at n kept = position_or_len (is_due n) kept

due_step : (n : ℕ) (x y : Kept) (ys : List Kept) → (slice_get ys (at n ys) ≡ Some x → filter (is_due n) ys ≡ x ∷ filter (is_due n) (remove ys (at n ys)))
    → (t : Bool) → is_due n y ≡ t → slice_get (y ∷ ys) (at n (y ∷ ys)) ≡ Some x → filter (is_due n) (y ∷ ys) ≡ x ∷ filter (is_due n) (remove (y ∷ ys) (at n (y ∷ ys)))
due_step n x y ys ih true e h = rw e (ap (λ (k : Kept). k ∷ filter (is_due n) ys) (one_some y x (rw e at h)))
due_step n x y ys ih false e h =
    let next : 1 + at n ys ≡ suc (at n ys) = omega arith in
    rw (e, next, e) (ih (rw (e, next) at h))

pub due_first : (n : ℕ) (x : Kept) (kept : List Kept) → slice_get kept (at n kept) ≡ Some x → filter (is_due n) kept ≡ x ∷ filter (is_due n) (remove kept (at n kept))
due_first n x [] h = absurd cc
due_first n x (y ∷ ys) h = due_step n x y ys (due_first n x ys) (is_due n y) refl h

left_step : (n : ℕ) (y : Kept) (ys : List Kept) → (at n ys < length ys → filter (is_left n) (remove ys (at n ys)) ≡ filter (is_left n) ys)
    → (t : Bool) → is_due n y ≡ t → at n (y ∷ ys) < length (y ∷ ys) → filter (is_left n) (remove (y ∷ ys) (at n (y ∷ ys))) ≡ filter (is_left n) (y ∷ ys)
left_step n y ys ih true e lt = rw e refl
left_step n y ys ih false e lt =
    let next : 1 + at n ys ≡ suc (at n ys) = omega arith in
    rw (e, next, e) (ap (λ (l : List Kept). y ∷ l) (ih (omega (arith, rw e at lt))))

pub left_first : (n : ℕ) (kept : List Kept) → at n kept < length kept → filter (is_left n) (remove kept (at n kept)) ≡ filter (is_left n) kept
left_first n [] lt = absurd (omega (arith, lt))
left_first n (y ∷ ys) lt = left_step n y ys (left_first n ys) (is_due n y) refl lt

-- ---- none is due

abbrev dues : ℕ → List Kept → List Kept
dues n kept = filter (is_due n) kept

left_step_none : (n : ℕ) (x : Kept) (xs : List Kept) → (dues n xs ≡ [] → filter (is_left n) xs ≡ xs) → (t : Bool) → is_due n x ≡ t → dues n (x ∷ xs) ≡ [] → filter (is_left n) (x ∷ xs) ≡ x ∷ xs
left_step_none n x xs ih true e h = absurd (let no : x ∷ dues n xs ≡ [] = rw e at h in omega (arith, ap length no))
left_step_none n x xs ih false e h = rw e (ap (λ (l : List Kept). x ∷ l) (ih (rw e at h)))

none_left : (n : ℕ) (kept : List Kept) → dues n kept ≡ [] → filter (is_left n) kept ≡ kept
none_left n [] h = refl
none_left n (x ∷ xs) h = left_step_none n x xs (none_left n xs) (is_due n x) refl h

no_items : (kept : List Kept) → map item_of kept ≡ [] → kept ≡ []
no_items [] h = refl
no_items (x ∷ xs) h = absurd (omega (arith, ap length h))

-- where none is due, all are left
pub none_due : (n : ℕ) (kept : List Kept) → due_of n kept ≡ [] → kept ≡ filter (is_left n) kept
none_due n kept h = sym (none_left n kept (no_items (dues n kept) h))

as_many : (kept : List Kept) → length (map item_of kept) ≡ length kept
as_many [] = refl
as_many (x ∷ xs) = ap suc (as_many xs)

-- no more are due than are kept
pub few_due : (n : ℕ) (kept : List Kept) → length (due_of n kept) ≤ length kept
few_due n kept = omega (arith, as_many (dues n kept), length-filter_both (is_due n) (is_left n) (λ e. refl) kept)
