-- The first row that is asked for, lane by lane, and the row at a place.
use Rattle.std.proofs.Common.{◌≡◌, ℕ, suc, ◌+◌, ◌-◌, ◌<◌, ◌≤◌, Bool, true, false, List, [], ◌∷◌, inl, inr, refl, sym, ap, ◌∙◌, arith}
use Rattle.std.specs.Prelude.{◌⊎◌, ◌==◌, ◌&&◌, if◌then◌else◌, Option, None, Some, find, slice_get}
use Rattle.std.proofs.lemmas.Bool.Decides.{nat_tests}
use Rattle.mq_message.specs.declared.place.Place.{Place}
use Rattle.mq_message.specs.declared.place.Want.{Want}
use Rattle.mq_queue.specs.declared.row.Row.{Row}
use Rattle.mq_queue.specs.Rows.{keep}
use Rattle.mq_queue.specs.Queues.{is_at}
use Rattle.mq_index.specs.Lanes.{found_from, in_lane, in_order, or_later}
use Rattle.mq_index.specs.Slots.{AreMarked}
use Rattle.mq_index.specs.Walks.{is_asked, is_taken, stored}
use Rattle.mq_index.proofs.KeyLaws.{both_true}
use Rattle.mq_index.proofs.ListLaws.{some_is}
use Rattle.mq_index.proofs.ChainLaws.{three}
use Rattle.mq_index.proofs.OrderLaws.{found_none, found_one, found_start, or_not}

find_lane : (test : Row → Bool) (lane : ℕ) (rows : List Row) → find (λ (row : Row). in_lane lane row && test row) rows ≡ find test (keep (in_lane lane) rows)
find_lane test lane [] = refl
find_lane test lane (x ∷ xs) = by (in_lane lane x) refl (test x) refl (find_lane test lane xs)
  where
    by : (b : Bool) → in_lane lane x ≡ b → (c : Bool) → test x ≡ c → find (λ (row : Row). in_lane lane row && test row) xs ≡ find test (keep (in_lane lane) xs)
        → (if b && test x then Some x else find (λ (row : Row). in_lane lane row && test row) xs) ≡ find test (if b then x ∷ keep (in_lane lane) xs else keep (in_lane lane) xs)
    by true e true f h = ap (λ (t : Bool). if t then Some x else find (λ (row : Row). in_lane lane row && test row) xs) f ∙ sym (ap (λ (t : Bool). if t then Some x else find test (keep (in_lane lane) xs)) f)
    by true e false f h = ap (λ (t : Bool). if t then Some x else find (λ (row : Row). in_lane lane row && test row) xs) f ∙ h ∙ sym (ap (λ (t : Bool). if t then Some x else find test (keep (in_lane lane) xs)) f)
    by false e c f h = h

lane_step : (test : Row → Bool) (lane : ℕ) (rows : List Row) → lane < 10 → found_from test (10 - lane) lane rows ≡ or_later (find test (keep (in_lane lane) rows)) (found_from test (10 - (lane + 1)) (lane + 1) rows)
lane_step test lane rows lt =
    let a : 10 - lane ≡ suc (10 - (lane + 1)) = omega (arith, lt) in
    let b : suc lane ≡ lane + 1 = omega arith in
    ap (λ (n : ℕ). found_from test n lane rows) a ∙ ap (λ (n : ℕ). or_later (find test (keep (in_lane lane) rows)) (found_from test (10 - (lane + 1)) n rows)) b

module _ (any : Bool) (want : Want) (after : Option Place) (slots : List (Option Row)) where
  abbrev asked : Row → Bool
  asked = is_asked any want after

  -- what is left to look at gives what all gives
  abbrev pub LooksAt : ℕ → Type 0
  LooksAt lane = find asked (in_order (stored slots)) ≡ found_from asked (10 - lane) lane (stored slots)

  pub looks_first : LooksAt 0
  looks_first = found_start asked slots

  pub looks_found : (lane : ℕ) (row : Row) → lane < 10 → LooksAt lane → find (is_taken lane any want after) (stored slots) ≡ Some row → find asked (in_order (stored slots)) ≡ Some row
  looks_found lane row lt h e =
      h ∙ lane_step asked lane (stored slots) lt ∙ ap (λ (o : Option Row). or_later o (found_from asked (10 - (lane + 1)) (lane + 1) (stored slots))) (sym (find_lane asked lane (stored slots)) ∙ e)

  pub looks_on : (lane : ℕ) → lane < 10 → LooksAt lane → find (is_taken lane any want after) (stored slots) ≡ None → LooksAt (lane + 1)
  looks_on lane lt h e =
      h ∙ lane_step asked lane (stored slots) lt ∙ ap (λ (o : Option Row). or_later o (found_from asked (10 - (lane + 1)) (lane + 1) (stored slots))) (sym (find_lane asked lane (stored slots)) ∙ e)

  pub looks_end : (lane : ℕ) → 10 ≤ lane → LooksAt lane → find asked (in_order (stored slots)) ≡ None
  looks_end lane le h = let z : 10 - lane ≡ 0 = omega (arith, le) in h ∙ ap (λ (n : ℕ). found_from asked n lane (stored slots)) z

-- AT A PLACE
nat_is : (n m : ℕ) → (n == m) ≡ true → n ≡ m
nat_is n m e = grind (arith, nat_tests)

module _ (place : Place) (marks : List ℕ) (slots : List (Option Row)) (arrivals : ℕ) (m : AreMarked marks slots arrivals) where
  arrives : (r : Row) → is_at place r ≡ true → r.place.arrival ≡ place.arrival
  arrives r e = nat_is r.place.arrival place.arrival (both_true (r.place.lane == place.lane) (r.place.arrival == place.arrival) e).1

  same_mark : (i j : ℕ) → slice_get marks i ≡ Some place.arrival → slice_get marks j ≡ Some place.arrival → i ≡ j
  same_mark i j e f = by (three i j)
    where
      no : (a : ℕ) → a < a → ⊥
      no a lt = omega (arith, lt)

      by : (i < j) ⊎ ((i ≡ j) ⊎ (j < i)) → i ≡ j
      by (inl lt) = absurd (no place.arrival (m.rising i j place.arrival place.arrival lt e f))
      by (inr (inl same)) = same
      by (inr (inr lt)) = absurd (no place.arrival (m.rising j i place.arrival place.arrival lt f e))

  marks_it : (j : ℕ) (r : Row) → slice_get slots j ≡ Some (Some r) → is_at place r ≡ true → slice_get marks j ≡ Some place.arrival
  marks_it j r there e = m.mark j r there ∙ ap Some (arrives r e)

  pub no_place : ((at : ℕ) → slice_get marks at ≡ Some place.arrival → ⊥) → find (is_at place) (in_order (stored slots)) ≡ None
  no_place none = found_none (is_at place) slots (λ j r there. or_not (is_at place r) (λ e. none j (marks_it j r there e)))

  pub place_empty : (at : ℕ) → slice_get marks at ≡ Some place.arrival → slice_get slots at ≡ Some None → find (is_at place) (in_order (stored slots)) ≡ None
  place_empty at here empty = found_none (is_at place) slots (λ j r there. or_not (is_at place r) (λ e. differs j r there (same_mark j at (marks_it j r there e) here)))
    where
      differs : (j : ℕ) (r : Row) → slice_get slots j ≡ Some (Some r) → j ≡ at → ⊥
      differs j r there same = let no : Some (Some r) ≡ Some None = sym there ∙ ap (slice_get slots) same ∙ empty in cc

  place_other : (at : ℕ) (row : Row) → slice_get marks at ≡ Some place.arrival → slice_get slots at ≡ Some (Some row) → (row.place.lane == place.lane) ≡ false → find (is_at place) (in_order (stored slots)) ≡ None
  place_other at row here there other = found_none (is_at place) slots (λ j r is. or_not (is_at place r) (λ e. differs j r is e (same_mark j at (marks_it j r is e) here)))
    where
      differs : (j : ℕ) (r : Row) → slice_get slots j ≡ Some (Some r) → is_at place r ≡ true → j ≡ at → ⊥
      differs j r is e same =
          let one : r ≡ row = some_is r row (some_is (Some r) (Some row) (sym is ∙ ap (slice_get slots) same ∙ there)) in
          let t : (row.place.lane == place.lane) ≡ true = ap (λ (x : Row). x.place.lane == place.lane) (sym one) ∙ (both_true (r.place.lane == place.lane) (r.place.arrival == place.arrival) e).0 in
          let no : true ≡ false = sym t ∙ other in cc

  itself : (n : ℕ) → (n == n) ≡ true
  itself n = grind (arith, nat_tests)

  place_found : (at : ℕ) (row : Row) → slice_get marks at ≡ Some place.arrival → slice_get slots at ≡ Some (Some row) → (row.place.lane == place.lane) ≡ true → find (is_at place) (in_order (stored slots)) ≡ Some row
  place_found at row here there same =
      found_one (is_at place) slots at row (m.lane at row there) there
      (ap (λ (b : Bool). b && (row.place.arrival == place.arrival)) same ∙ ap (λ (n : ℕ). n == place.arrival) (some_is row.place.arrival place.arrival (sym (m.mark at row there) ∙ here)) ∙ itself place.arrival)
      (λ j r is e. same_mark j at (marks_it j r is e) here)

  pub place_is : (at : ℕ) (row : Row) → slice_get marks at ≡ Some place.arrival → slice_get slots at ≡ Some (Some row) → find (is_at place) (in_order (stored slots)) ≡ (if in_lane place.lane row then Some row else None)
  place_is at row here there = by (in_lane place.lane row) refl
    where
      by : (b : Bool) → in_lane place.lane row ≡ b → find (is_at place) (in_order (stored slots)) ≡ (if b then Some row else None)
      by true e = place_found at row here there e
      by false e = place_other at row here there e
