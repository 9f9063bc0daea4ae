-- Rows in order rise in lane, so a lane's end parts them, and a row that goes in there is the last of its lane.
use Rattle.std.proofs.Common.{◌≡◌, ℕ, zero, suc, ◌<◌, ◌≤◌, true, eqb, List, [], ◌∷◌, length, get_or, refl, ap, arith}
use Rattle.std.specs.Prelude.{nat_lt, ◌&&◌, ◌||◌}
use Rattle.std.specs.List.{insert}
use Rattle.std.specs.List.Sorted.{IsNonDecreasingBy}
use Rattle.std.proofs.lemmas.Bool.Decides.{nat_tests}
use Rattle.mq_message.specs.declared.place.Place.{Place}
use Rattle.mq_queue.specs.declared.row.Row.{Row}
use Rattle.mq_queue.specs.Rows.{insert_row}
use Rattle.mq_queue.specs.Ends.{IsEndOfLane}
use Rattle.mq_queue.specs.Queues.{AllBehind, AreInOrder}

lane_rises : (l1 l2 a1 a2 : ℕ) → (nat_lt l1 l2 || (eqb l1 l2 && nat_lt a1 a2)) ≡ true → l1 ≤ l2
lane_rises l1 l2 a1 a2 e = grind (arith, nat_tests)

behind_at : (place : Place) (rows : List Row) (j : ℕ) (d : Row) → AllBehind place rows → j < length rows → place.lane ≤ (get_or rows j d).place.lane
behind_at place [] j d h lt = absurd (omega (arith, lt))
behind_at place (x ∷ xs) zero d h lt = lane_rises place.lane x.place.lane place.arrival x.place.arrival h.0
behind_at place (x ∷ xs) (suc j) d h lt = behind_at place xs j d h.1 (omega (arith, lt))

rising_at : (rows : List Row) → AreInOrder rows → (i j : ℕ) (d : Row) → i ≤ j → j < length rows → (get_or rows i d).place.lane ≤ (get_or rows j d).place.lane
rising_at [] o i j d le lt = absurd (omega (arith, lt))
rising_at (x ∷ xs) o zero zero d le lt = omega arith
rising_at (x ∷ xs) o zero (suc j) d le lt = behind_at x.place xs j d o.0 (omega (arith, lt))
rising_at (x ∷ xs) o (suc i) zero d le lt = absurd (omega (arith, le))
rising_at (x ∷ xs) o (suc i) (suc j) d le lt = rising_at xs o.1 i j d (omega (arith, le)) (omega (arith, lt))

pub rising : (rows : List Row) → AreInOrder rows → IsNonDecreasingBy (λ (row : Row). row.place.lane) rows
rising rows o = λ i j d le lt. rising_at rows o i j d le lt

-- a row that goes in at the end of its lane
pub placed_at_end : (rows : List Row) (new : Row) (at : ℕ) → at ≤ length rows → IsEndOfLane new.place.lane rows at → insert rows at new ≡ insert_row new rows
placed_at_end [] new zero le h = refl
placed_at_end [] new (suc at) le h = absurd (omega (arith, le))
placed_at_end (x ∷ xs) new zero le h = rw (h.1 0 x (omega arith) (omega arith)) refl
placed_at_end (x ∷ xs) new (suc at) le h =
    let rest : IsEndOfLane new.place.lane xs at = ((λ k d a b. h.0 (suc k) d (omega arith) (omega (arith, b))), (λ k d a b. h.1 (suc k) d (omega (arith, a)) (omega (arith, b)))) in
    rw (h.0 0 x (omega arith) (omega arith)) (ap (λ (rows : List Row). x ∷ rows) (placed_at_end xs new at (omega (arith, le)) rest))
