-- In rows in order of place, halving finds where the rows behind a place begin, and where a place is.
use Rattle.std.proofs.Common.{◌≡◌, ℕ, zero, suc, ◌<◌, ◌≤◌, Bool, true, false, eqb, List, [], ◌∷◌, cond, length, drop, get_or, refl, sym, ap, subst, ◌∙◌, arith}
use Rattle.std.specs.Prelude.{Option, Some, None, find, if◌then◌else◌, not, nat_lt, slice_get, ◌&&◌, ◌||◌}
use Rattle.std.specs.List.Sorted.{IsPartitionedBy, IsPartitionPoint}
use Rattle.std.proofs.lemmas.Bool.{eqb-true}
use Rattle.std.proofs.lemmas.Bool.Decides.{nat_tests}
use Rattle.mq_message.specs.declared.place.Place.{Place}
use Rattle.mq_message.specs.declared.place.Want.{Want}
use Rattle.mq_queue.specs.declared.row.Row.{Row}
use Rattle.mq_queue.specs.Rows.{is_free, is_before, same_place, is_after, is_wanted}
use Rattle.mq_queue.specs.Ends.{IsStartAfter, IsStartAt}
use Rattle.mq_queue.specs.Queues.{AllBehind, AreInOrder, is_fitting, is_takable, is_at}

-- Places.

pub before_trans : (a b c : Place) → is_before a b ≡ true → is_before b c ≡ true → is_before a c ≡ true
before_trans a b c p q = by a.lane b.lane c.lane a.arrival b.arrival c.arrival p q
  where
    by : (l1 l2 l3 a1 a2 a3 : ℕ) → (nat_lt l1 l2 || (eqb l1 l2 && nat_lt a1 a2)) ≡ true → (nat_lt l2 l3 || (eqb l2 l3 && nat_lt a2 a3)) ≡ true → (nat_lt l1 l3 || (eqb l1 l3 && nat_lt a1 a3)) ≡ true
    by l1 l2 l3 a1 a2 a3 p q = grind (arith, nat_tests)

-- what is not before a place is at it or behind it
behind_or_at : (a b : Place) → is_before a b ≡ false → same_place a b ≡ false → is_before b a ≡ true
behind_or_at a b p q = by a.lane b.lane a.arrival b.arrival p q
  where
    by : (l1 l2 a1 a2 : ℕ) → (nat_lt l1 l2 || (eqb l1 l2 && nat_lt a1 a2)) ≡ false → (eqb l1 l2 && eqb a1 a2) ≡ false → (nat_lt l2 l1 || (eqb l2 l1 && nat_lt a2 a1)) ≡ true
    by l1 l2 a1 a2 p q = grind (arith, nat_tests)

before_apart : (a b : Place) → is_before a b ≡ true → same_place a b ≡ false
before_apart a b p = by a.lane b.lane a.arrival b.arrival p
  where
    by : (l1 l2 a1 a2 : ℕ) → (nat_lt l1 l2 || (eqb l1 l2 && nat_lt a1 a2)) ≡ true → (eqb l1 l2 && eqb a1 a2) ≡ false
    by l1 l2 a1 a2 p = grind (arith, nat_tests)

behind_apart : (a b : Place) → is_before b a ≡ true → same_place a b ≡ false
behind_apart a b p = by a.lane b.lane a.arrival b.arrival p
  where
    by : (l1 l2 a1 a2 : ℕ) → (nat_lt l2 l1 || (eqb l2 l1 && nat_lt a2 a1)) ≡ true → (eqb l1 l2 && eqb a1 a2) ≡ false
    by l1 l2 a1 a2 p = grind (arith, nat_tests)

-- Rows by their index.

behind_at : (place : Place) (rows : List Row) (j : ℕ) (d : Row) → AllBehind place rows → j < length rows → is_before place (get_or rows j d).place ≡ true
behind_at place [] j d h lt = absurd (omega (arith, lt))
behind_at place (x ∷ xs) zero d h lt = h.0
behind_at place (x ∷ xs) (suc j) d h lt = behind_at place xs j d h.1 (omega (arith, lt))

before_at : (rows : List Row) → AreInOrder rows → (i j : ℕ) (d : Row) → i < j → j < length rows → is_before (get_or rows i d).place (get_or rows j d).place ≡ true
before_at [] o i j d le lt = absurd (omega (arith, lt))
before_at (x ∷ xs) o i zero d le lt = absurd (omega (arith, le))
before_at (x ∷ xs) o zero (suc j) d le lt = behind_at x.place xs j d o.0 (omega (arith, lt))
before_at (x ∷ xs) o (suc i) (suc j) d le lt = before_at xs o.1 i j d (omega (arith, le)) (omega (arith, lt))

-- Rows in order are parted by a place.

flip : (t : Bool) → t ≡ false → not t ≡ true
flip true e = absurd cc
flip false e = refl

was_false : (t : Bool) → not t ≡ true → t ≡ false
was_false true e = absurd cc
was_false false e = refl

was_true : (t : Bool) → not t ≡ false → t ≡ true
was_true true e = refl
was_true false e = absurd cc

-- a row that is no later than one that is not behind the place is not behind it
not_behind : (place a b : Place) (i j : ℕ) → i ≤ j → (i < j → is_before a b ≡ true) → (i ≡ j → a ≡ b) → is_before place b ≡ false → (t : Bool) → is_before place a ≡ t → t ≡ false
not_behind place a b i j le before same e false f = refl
not_behind place a b i j le before same e true f = absurd (at (eqb i j) refl)
  where
    at : (t : Bool) → eqb i j ≡ t → ⊥
    at true s = let t : is_before place b ≡ true = ap (is_before place) (sym (same (eqb-true i j s))) ∙ f in cc
    at false s = let t : is_before place b ≡ true = before_trans place a b f (before (grind (arith, nat_tests))) in cc

pub parted_after : (after : Option Place) (rows : List Row) → AreInOrder rows → IsPartitionedBy (λ (row : Row). not (is_after after row)) rows
parted_after None rows o i j d le lt e = e
parted_after (Some place) rows o i j d le lt e =
    flip _ (not_behind place (get_or rows i d).place (get_or rows j d).place i j le (λ l. before_at rows o i j d l lt) (λ s. ap (λ k. (get_or rows k d).place) s) (was_false _ e) (is_before place (get_or rows i d).place) refl)

-- a row that is no later than one before the place is before it
still_before : (place a b : Place) (i j : ℕ) → i ≤ j → (i < j → is_before a b ≡ true) → (i ≡ j → a ≡ b) → is_before b place ≡ true → is_before a place ≡ true
still_before place a b i j le before same e = at (eqb i j) refl
  where
    at : (t : Bool) → eqb i j ≡ t → is_before a place ≡ true
    at true s = ap (λ x. is_before x place) (same (eqb-true i j s)) ∙ e
    at false s = before_trans a b place (before (grind (arith, nat_tests))) e

pub parted_at : (place : Place) (rows : List Row) → AreInOrder rows → IsPartitionedBy (λ (row : Row). is_before row.place place) rows
parted_at place rows o i j d le lt e =
    still_before place (get_or rows i d).place (get_or rows j d).place i j le (λ l. before_at rows o i j d l lt) (λ s. ap (λ k. (get_or rows k d).place) s) e

pub start_after : (after : Option Place) (rows : List Row) (at : ℕ) → IsPartitionPoint (λ (row : Row). not (is_after after row) ≡ true) (λ (row : Row). not (is_after after row) ≡ false) rows at → IsStartAfter after rows at
start_after after rows at h = ((λ k d a b. was_false _ (h.0 k d a b)), (λ k d a b. was_true _ (h.1 k d a b)))

-- What is found there.

-- the rows before fail the test, and the others as they fail another
find_skips : (p q : Row → Bool) (rows : List Row) (at : ℕ) → ((k : ℕ) (d : Row) → k < at → p (get_or rows k d) ≡ false) → ((k : ℕ) (d : Row) → at ≤ k → k < length rows → p (get_or rows k d) ≡ q (get_or rows k d)) → at ≤ length rows
    → find p rows ≡ find q (drop at rows)
find_skips p q [] zero none same le = refl
find_skips p q [] (suc at) none same le = absurd (omega (arith, le))
find_skips p q (x ∷ xs) zero none same le =
    rw (same 0 x (omega arith) (omega arith)) (ap (λ (r : Option Row). cond (q x) (Some x) r) (find_skips p q xs zero (λ k d lt. absurd (omega (arith, lt))) (λ k d a b. same (suc k) d (omega arith) (omega (arith, b))) (omega arith)))
find_skips p q (x ∷ xs) (suc at) none same le =
    rw (none 0 x (omega arith)) (find_skips p q xs at (λ k d lt. none (suc k) d (omega (arith, lt))) (λ k d a b. same (suc k) d (omega (arith, a)) (omega (arith, b))) (omega (arith, le)))

takable_none : (free after wanted : Bool) → after ≡ false → (free && (after && wanted)) ≡ false
takable_none true after wanted e = rw e refl
takable_none false after wanted e = refl

takable_same : (free after wanted : Bool) → after ≡ true → (free && (after && wanted)) ≡ (free && wanted)
takable_same free after wanted e = rw e refl

pub first_from : (want : Want) (after : Option Place) (rows : List Row) (at : ℕ) → IsStartAfter after rows at → at ≤ length rows → find (is_fitting want) (drop at rows) ≡ find (is_takable want after) rows
first_from want after rows at h le =
    sym (find_skips (is_takable want after) (is_fitting want) rows at
    (λ k d lt. let row = get_or rows k d in takable_none (is_free row) (is_after after row) (is_wanted want row) (h.0 k d (omega arith) lt))
    (λ k d a b. let row = get_or rows k d in takable_same (is_free row) (is_after after row) (is_wanted want row) (h.1 k d a b)) le)

pub next_from : (after : Option Place) (rows : List Row) (at : ℕ) → IsStartAfter after rows at → at ≤ length rows → slice_get rows at ≡ find (is_after after) rows
next_from after [] at h le = refl
next_from after (x ∷ xs) zero h le = rw (h.1 0 x (omega arith) (omega arith)) refl
next_from after (x ∷ xs) (suc at) h le =
    rw (h.0 0 x (omega arith) (omega arith)) (next_from after xs at ((λ k d a b. h.0 (suc k) d (omega arith) (omega (arith, b))), (λ k d a b. h.1 (suc k) d (omega (arith, a)) (omega (arith, b)))) (omega (arith, le)))

none_at : (place : Place) (rows : List Row) → ((k : ℕ) (d : Row) → k < length rows → is_at place (get_or rows k d) ≡ false) → find (is_at place) rows ≡ None
none_at place [] h = refl
none_at place (x ∷ xs) h = rw (h 0 x (omega arith)) (none_at place xs (λ k d lt. h (suc k) d (omega (arith, lt))))

-- no row is at the place
pub past_all : (place : Place) (rows : List Row) (at : ℕ) → IsStartAt place rows at → slice_get rows at ≡ None → find (is_at place) rows ≡ None
past_all place rows at h e = none_at place rows (λ k d lt. before_apart (get_or rows k d).place place (h.0 k d (omega arith) (past rows at e k lt)))
  where
    past : (rows : List Row) (at : ℕ) → slice_get rows at ≡ None → (k : ℕ) → k < length rows → k < at
    past [] at e k lt = absurd (omega (arith, lt))
    past (x ∷ xs) zero e k lt = absurd cc
    past (x ∷ xs) (suc at) e zero lt = omega arith
    past (x ∷ xs) (suc at) e (suc k) lt = omega (arith, past xs at e k (omega (arith, lt)))

step_at : (place : Place) (x : Row) (xs : List Row) → (t : Bool) → is_at place x ≡ t → (t ≡ false → find (is_at place) xs ≡ None) → cond t (Some x) (find (is_at place) xs) ≡ cond t (Some x) None
step_at place x xs true e h = refl
step_at place x xs false e h = h refl

-- only the first row that is not before the place can be at it
pub found_at : (place : Place) (rows : List Row) (at : ℕ) (row : Row) → AreInOrder rows → IsStartAt place rows at → slice_get rows at ≡ Some row → find (is_at place) rows ≡ (if is_at place row then Some row else None)
found_at place [] at row o h e = absurd cc
found_at place (x ∷ xs) zero row o h e =
    let same : x ≡ row = cc in
    subst (λ (r : Row). find (is_at place) (x ∷ xs) ≡ cond (is_at place r) (Some r) None) same
    (step_at place x xs (is_at place x) refl (λ no. none_at place xs (λ k d lt.
    behind_apart (get_or xs k d).place place (before_trans place x.place (get_or xs k d).place (behind_or_at x.place place (h.1 0 x (omega arith) (omega arith)) no) (behind_at x.place xs k d o.0 lt)))))
found_at place (x ∷ xs) (suc at) row o h e =
    rw (before_apart x.place place (h.0 0 x (omega arith) (omega arith)))
    (found_at place xs at row o.1 ((λ k d a b. h.0 (suc k) d (omega arith) (omega (arith, b))), (λ k d a b. h.1 (suc k) d (omega (arith, a)) (omega (arith, b)))) e)
