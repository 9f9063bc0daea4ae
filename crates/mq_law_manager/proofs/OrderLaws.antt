-- Rows stay in order of place.
use Rattle.std.proofs.Common.{ℕ, ◌≡◌, ◌≤◌, ◌<◌, ◌+◌, Bool, List, [], length, ap, arith}
use Rattle.std.specs.Prelude.{if◌then◌else◌}
use Rattle.std.specs.Str.{bytes_eq}
use Rattle.mq_queue.specs.declared.row.Row.{Row}
use Rattle.mq_queue.specs.Rows.{insert_row}
use Rattle.mq_queue.specs.Queues.{AreInOrder, AreCounted}
use Rattle.mq_queue.proofs.QueueLaws.{all_insert, all_keep, all_retag, all_imply, order_insert, order_keep, order_retag, length_placed, length_kept, length_retagged, KeepsPlaces}
use Rattle.mq_law_manager.specs.View.{at_name, inserted, kept_all, retagged_all}
use Rattle.mq_law_manager.specs.Facts.{AreOrdered}
use Rattle.mq_law_manager.proofs.Lists.{bool_case}

pub inserts : (rows : List ℕ → List Row) (arrivals : List ℕ → ℕ) (name : List ℕ) (row : Row) → row.place.arrival ≡ arrivals name + 1 → AreOrdered rows arrivals → AreOrdered (inserted name row rows) (at_name name (arrivals name + 1) arrivals)
inserts rows arrivals name row is a = record {
  in_order = λ q. bool_case (bytes_eq q name) (λ t. AreInOrder (if t then insert_row row (rows name) else rows q))
      (λ e. order_insert row (rows name) (all_imply (λ (r : Row). r.place.arrival ≤ arrivals name) (λ (r : Row). r.place.arrival < row.place.arrival) (λ r le. later r.place.arrival (arrivals name) row.place.arrival is le) (rows name) (a.counted name)) (a.in_order name))
      (λ e. a.in_order q);
  counted = λ q. bool_case (bytes_eq q name) (λ t. AreCounted (if t then arrivals name + 1 else arrivals q) (if t then insert_row row (rows name) else rows q))
      (λ e. all_insert (λ (r : Row). r.place.arrival ≤ arrivals name + 1) row (rows name) (last row.place.arrival (arrivals name) is)
      (all_imply (λ (r : Row). r.place.arrival ≤ arrivals name) (λ (r : Row). r.place.arrival ≤ arrivals name + 1) (λ r le. more r.place.arrival (arrivals name) le) (rows name) (a.counted name)))
      (λ e. a.counted q);
  fits = λ q. bool_case (bytes_eq q name) (λ t. length (if t then insert_row row (rows name) else rows q) ≤ (if t then arrivals name + 1 else arrivals q))
      (λ e. one_more (length (insert_row row (rows name))) (length (rows name)) (arrivals name) (length_placed row (rows name)) (a.fits name))
      (λ e. a.fits q);
}
  where
    one_more : (x y n : ℕ) → x ≡ y + 1 → y ≤ n → x ≤ n + 1
    one_more x y n e le = omega (arith, e, le)

    later : (x n k : ℕ) → k ≡ n + 1 → x ≤ n → x < k
    later x n k e le = omega (arith, e, le)

    last : (k n : ℕ) → k ≡ n + 1 → k ≤ n + 1
    last k n e = omega (arith, e)

    more : (x n : ℕ) → x ≤ n → x ≤ n + 1
    more x n le = omega (arith, le)

pub keeps : (rows : List ℕ → List Row) (arrivals : List ℕ → ℕ) (test : List ℕ → Row → Bool) → AreOrdered rows arrivals → AreOrdered (kept_all test rows) arrivals
keeps rows arrivals test a = record { in_order = λ q. order_keep (test q) (rows q) (a.in_order q); counted = λ q. all_keep (λ (r : Row). r.place.arrival ≤ arrivals q) (test q) (rows q) (a.counted q); fits = λ q. fewer (length (kept_all test rows q)) (length (rows q)) (arrivals q) (length_kept (test q) (rows q)) (a.fits q) }
  where
    fewer : (x y n : ℕ) → x ≤ y → y ≤ n → x ≤ n
    fewer x y n a b = omega (arith, a, b)

pub retags : (rows : List ℕ → List Row) (arrivals : List ℕ → ℕ) (change : List ℕ → Row → Row) → ((q : List ℕ) → KeepsPlaces (change q)) → AreOrdered rows arrivals → AreOrdered (retagged_all change rows) arrivals
retags rows arrivals change same a = record {
  in_order = λ q. order_retag (change q) (same q) (rows q) (a.in_order q);
  counted = λ q. all_retag (λ (r : Row). r.place.arrival ≤ arrivals q) (λ (r : Row). r.place.arrival ≤ arrivals q) (change q) (λ r le. at (change q r).place.arrival r.place.arrival (arrivals q) (ap (λ p. p.arrival) ((same q r).0)) le) (rows q) (a.counted q);
  fits = λ q. at (length (retagged_all change rows q)) (length (rows q)) (arrivals q) (length_retagged (change q) (rows q)) (a.fits q);
}
  where
    at : (x y n : ℕ) → x ≡ y → y ≤ n → x ≤ n
    at x y n e le = omega (arith, e, le)

pub empties : (rows : List ℕ → List Row) (arrivals : List ℕ → ℕ) (name : List ℕ) → AreOrdered rows arrivals → AreOrdered (at_name name [] rows) (at_name name 0 arrivals)
empties rows arrivals name a = record {
  in_order = λ q. bool_case (bytes_eq q name) (λ t. AreInOrder (if t then [] else rows q)) (λ e. tt) (λ e. a.in_order q);
  counted = λ q. bool_case (bytes_eq q name) (λ t. AreCounted (if t then 0 else arrivals q) (if t then [] else rows q)) (λ e. tt) (λ e. a.counted q);
  fits = λ q. bool_case (bytes_eq q name) (λ t. length (if t then [] else rows q) ≤ (if t then 0 else arrivals q)) (λ e. omega arith) (λ e. a.fits q);
}
