-- All rows of a store move into another one, in order.
use Rattle.std.proofs.Common.{◌≡◌, ℕ, zero, suc, ◌+◌, ◌<◌, ◌≤◌, true, false, List, [], ◌∷◌, ◌++◌, length, take, inl, inr, refl, sym, ap, subst, ◌∙◌, arith}
use Rattle.std.specs.Prelude.{◌⊎◌, ◌==◌, Option, None, Some, slice_get, slice_set}
use Rattle.std.proofs.lemmas.Bool.Decides.{nat_tests}
use Rattle.mq_queue.specs.declared.row.Row.{Row}
use Rattle.mq_queue.specs.Rows.{has_ident}
use Rattle.mq_index.specs.Moves.{HasCome, MayCome}
use Rattle.mq_index.specs.Slots.{IsSound, one, total}
use Rattle.mq_index.specs.Stores.{StoreState}
use Rattle.mq_index.specs.Walks.{stored}
use Rattle.mq_index.proofs.ListLaws.{got_more, set_long, set_other, some_is}
use Rattle.mq_index.proofs.OrderLaws.{or_not, stored_more}

abbrev only : Option Row → List Row
only None = []
only (Some row) = row ∷ []

abbrev weight_of : Option Row → ℕ
weight_of None = 0
weight_of (Some row) = 1

stored_take : (slots : List (Option Row)) (n : ℕ) (slot : Option Row) → slice_get slots n ≡ Some slot → stored (take (suc n) slots) ≡ stored (take n slots) ++ only slot
stored_take [] zero slot e = absurd cc
stored_take [] (suc n) slot e = absurd cc
stored_take (None ∷ slots) zero slot e = ap only (some_is None slot e)
stored_take (Some x ∷ slots) zero slot e = ap only (some_is (Some x) slot e)
stored_take (None ∷ slots) (suc n) slot e = stored_take slots n slot e
stored_take (Some x ∷ slots) (suc n) slot e = ap (λ (rs : List Row). x ∷ rs) (stored_take slots n slot e)

total_take : (slots : List (Option Row)) (n : ℕ) (slot : Option Row) → slice_get slots n ≡ Some slot → total one (take (suc n) slots) ≡ total one (take n slots) + weight_of slot
total_take [] zero slot e = absurd cc
total_take [] (suc n) slot e = absurd cc
total_take (None ∷ slots) zero slot e = let h : 0 ≡ weight_of slot = ap weight_of (some_is None slot e) in omega (arith, h)
total_take (Some x ∷ slots) zero slot e = let h : 1 ≡ weight_of slot = ap weight_of (some_is (Some x) slot e) in omega (arith, h)
total_take (None ∷ slots) (suc n) slot e = total_take slots n slot e
total_take (Some x ∷ slots) (suc n) slot e = let h = total_take slots n slot e in omega (arith, h)

total_some : (slots : List (Option Row)) (n : ℕ) → total one (take n slots) ≤ total one slots
total_some [] zero = omega arith
total_some [] (suc n) = omega arith
total_some (s ∷ slots) zero = omega arith
total_some (None ∷ slots) (suc n) = total_some slots n
total_some (Some x ∷ slots) (suc n) = let h = total_some slots n in omega (arith, h)

take_all : (slots : List (Option Row)) → take (length slots) slots ≡ slots
take_all [] = refl
take_all (s ∷ slots) = ap (λ (ss : List (Option Row)). s ∷ ss) (take_all slots)

append_none : (xs : List Row) → xs ++ [] ≡ xs
append_none [] = refl
append_none (x ∷ xs) = ap (λ (l : List Row). x ∷ l) (append_none xs)

-- the rows of the first so many slots have moved
pub record Moved (first : List (Option Row)) (arrivals most n : ℕ) (from to : StoreState) : Type 0 where
  pub rest : (j : ℕ) → n ≤ j → slice_get from.slots j ≡ slice_get first j
  pub long : length from.slots ≡ length first
  pub rows : stored to.slots ≡ stored (take n first)
  pub came : (j : ℕ) (r : Row) → slice_get to.slots j ≡ Some (Some r) → (i : ℕ) × (i < n) × (slice_get first i ≡ Some (Some r))
  pub late : (j : ℕ) (r : Row) → n ≤ j → slice_get first j ≡ Some (Some r) → to.arrivals < r.place.arrival
  pub room : to.room + total one (take n first) ≡ most
  pub low : to.arrivals ≤ arrivals

pub moved_first : (from to : StoreState) → IsSound from.slots from.arrivals → to.slots ≡ [] → to.arrivals ≡ 0 → Moved from.slots from.arrivals to.room 0 from to
moved_first from to s empty none = record {
  rest = λ j le. refl;
  long = refl;
  rows = ap stored empty ∙ sym (at_none from.slots);
  came = λ j r e. absurd (nothing j r (sym (ap (λ (ss : List (Option Row)). slice_get ss j) empty) ∙ e));
  late = λ j r le e. let h = (s.arrived j r e).0 in omega (arith, h, none);
  room = let z = none_total from.slots in omega (arith, z);
  low = omega (arith, none);
} where
  at_none : (ss : List (Option Row)) → stored (take 0 ss) ≡ []
  at_none [] = refl
  at_none (x ∷ ss) = refl

  none_total : (ss : List (Option Row)) → total one (take 0 ss) ≡ 0
  none_total [] = refl
  none_total (x ∷ ss) = refl

  nothing : (j : ℕ) (r : Row) → slice_get {X = Option Row} [] j ≡ Some (Some r) → ⊥
  nothing zero r e = cc
  nothing (suc j) r e = cc

module _ (first : List (Option Row)) (arrivals room n : ℕ) (s : IsSound first arrivals) (from to : StoreState) (m : Moved first arrivals room n from to) where
  pub may_come : (row : Row) → total one first ≤ room → slice_get from.slots n ≡ Some (Some row) → MayCome row to
  may_come row enough there =
      let here : slice_get first n ≡ Some (Some row) = sym (m.rest n (omega arith)) ∙ there in
      let more = total_take first n (Some row) here in
      let some = total_some first (suc n) in
      record {
        room = omega (arith, more, some, enough, m.room);
        fresh = λ j r e. or_not (has_ident row.message.ident r) (λ t. twice row r here (m.came j r e) t);
        lane = s.low n row here;
        later = m.late n row (omega arith) here;
      }
    where
      less_not : (i : ℕ) → i < n → n ≡ i → ⊥
      less_not i lt e = omega (arith, lt, e)

      twice : (row r : Row) → slice_get first n ≡ Some (Some row) → (i : ℕ) × (i < n) × (slice_get first i ≡ Some (Some r)) → has_ident row.message.ident r ≡ true → ⊥
      twice row r here h t = less_not h.0 h.1 (s.apart n h.0 row r here h.2 t)

  pub moved_next : (slot : Option Row) (from_then to_then : StoreState) → slice_get from.slots n ≡ Some slot → from_then.slots ≡ slice_set from.slots n None → HasCome slot to to_then → Moved first arrivals room (suc n) from_then to_then
  moved_next slot from_then to_then there gone come = by slot (sym (m.rest n (omega arith)) ∙ there) come
    where
      rest_now : (j : ℕ) → suc n ≤ j → slice_get from_then.slots j ≡ slice_get first j
      rest_now j le = ap (λ (ss : List (Option Row)). slice_get ss j) gone ∙ set_other from.slots n j None (apart j n le) ∙ m.rest j (omega (arith, le))
        where
          apart : (a b : ℕ) → suc b ≤ a → (a == b) ≡ false
          apart a b h = grind (arith, nat_tests, h)

      long_now : length from_then.slots ≡ length first
      long_now = ap (λ (ss : List (Option Row)). length ss) gone ∙ set_long from.slots n None ∙ m.long

      by : (o : Option Row) → slice_get first n ≡ Some o → HasCome o to to_then → Moved first arrivals room (suc n) from_then to_then
      by None here h = record {
        rest = rest_now;
        long = long_now;
        rows = ap stored h.0 ∙ m.rows ∙ sym (stored_take first n None here ∙ append_none (stored (take n first)));
        came = λ j r e. let g = m.came j r (sym (ap (λ (ss : List (Option Row)). slice_get ss j) h.0) ∙ e) in (g.0, omega (arith, g.1), g.2);
        late = λ j r le e. let g = m.late j r (omega (arith, le)) e in omega (arith, g, h.1);
        room = let t = total_take first n None here in omega (arith, t, m.room, h.2);
        low = omega (arith, m.low, h.1);
      }
      by (Some row) here h = record {
        rest = rest_now;
        long = long_now;
        rows = ap stored h.0 ∙ stored_more to.slots row ∙ ap (λ (rs : List Row). rs ++ row ∷ []) m.rows ∙ sym (stored_take first n (Some row) here);
        came = λ j r e. from_it j r (got_more to.slots (Some row) (Some r) j (sym (ap (λ (ss : List (Option Row)). slice_get ss j) h.0) ∙ e));
        late = λ j r le e. let g = s.sorted n j row r (omega (arith, le)) here e in omega (arith, g, h.1);
        room = let t = total_take first n (Some row) here in omega (arith, t, m.room, h.2);
        low = let g = (s.arrived n row here).1 in omega (arith, g, h.1);
      } where
        from_it : (j : ℕ) (r : Row) → (slice_get to.slots j ≡ Some (Some r)) ⊎ ((j ≡ length to.slots) × (Some r ≡ Some row)) → (i : ℕ) × (i < suc n) × (slice_get first i ≡ Some (Some r))
        from_it j r (inl g) = let f = m.came j r g in (f.0, omega (arith, f.1), f.2)
        from_it j r (inr g) = (n, omega arith, here ∙ ap (λ (x : Row). Some (Some x)) (sym (some_is r row g.1)))

pub moved_end : (first : List (Option Row)) (arrivals room n : ℕ) (from to : StoreState) → n ≡ length first → Moved first arrivals room n from to → (stored to.slots ≡ stored first) × (to.room + total one first ≡ room) × (to.arrivals ≤ arrivals)
moved_end first arrivals room n from to end m =
    let all : take n first ≡ first = ap (λ (k : ℕ). take k first) end ∙ take_all first in
    (m.rows ∙ ap stored all, subst (λ (ss : List (Option Row)). to.room + total one ss ≡ room) all m.room, m.low)

pub slot_there : (slots : List (Option Row)) (n : ℕ) → n < length slots → (slot : Option Row) × (slice_get slots n ≡ Some slot)
slot_there [] n lt = absurd (omega (arith, lt))
slot_there (s ∷ ss) zero lt = (s, refl)
slot_there (s ∷ ss) (suc n) lt = slot_there ss n (omega (arith, lt))
