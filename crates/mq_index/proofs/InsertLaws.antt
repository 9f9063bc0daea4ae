-- A message that is inserted, and what is a queue's stays one.
use Rattle.std.proofs.Common.{◌≡◌, ℕ, ◌+◌, ◌<◌, Bool, true, false, List, [], ◌∷◌, ◌++◌, sym, ap, subst, ◌∙◌, arith}
use Rattle.std.specs.Prelude.{Option, None, Some, if◌then◌else◌, ℤ, pos, negsuc}
use Rattle.mq_message.specs.declared.message.Message.{Message}
use Rattle.mq_queue.specs.declared.row.Row.{Row}
use Rattle.mq_queue.specs.Lanes.{lane_at}
use Rattle.mq_queue.specs.Rows.{insert_row, keep, retag}
use Rattle.mq_queue.specs.Queues.{IsQueue, Lacks, lane_of, row_of}
use Rattle.mq_queue.proofs.QueueLaws.{KeepsPlaces, queue_kept, queue_placed, queue_retagged}
use Rattle.mq_index.specs.Lanes.{in_order}
use Rattle.mq_index.specs.Walks.{stored}
use Rattle.mq_index.proofs.RowLaws.{order_more}

lane_low : (p : ℤ) → lane_at p < 10
lane_low (pos n) = omega arith
lane_low (negsuc n) = omega arith

pub low_lane : (by_priority : Bool) (message : Message) (lane : ℕ) → lane ≡ lane_of by_priority message → lane < 10
low_lane by_priority message lane e = subst (λ (n : ℕ). n < 10) (sym e) (by by_priority)
  where
    by : (b : Bool) → (if b then lane_at message.md.priority else 0) < 10
    by true = lane_low message.md.priority
    by false = omega arith

abbrev pub row_at : (lane arrival : ℕ) → Message → Row
row_at lane arrival message = record { place = record { lane = lane; arrival = arrival }; message = message; by = None }

pub rows_more : (by_priority : Bool) (message : Message) (slots after : List (Option Row)) (lane arrival n : ℕ) → lane ≡ lane_of by_priority message → arrival ≡ n + 1 → after ≡ slots ++ Some (row_at lane arrival message) ∷ []
    → in_order (stored after) ≡ insert_row (row_of by_priority message (n + 1)) (in_order (stored slots))
rows_more by_priority message slots after lane arrival n lane_is arrival_is e =
    order_more slots after (row_at lane arrival message) (low_lane by_priority message lane lane_is) e
    ∙ ap (λ (l : ℕ). insert_row (row_at l arrival message) (in_order (stored slots))) lane_is ∙ ap (λ (a : ℕ). insert_row (row_at (lane_of by_priority message) a message) (in_order (stored slots))) arrival_is

pub queue_more : (by_priority : Bool) (message : Message) (slots after : List (Option Row)) (lane arrival arrivals n : ℕ) → lane ≡ lane_of by_priority message → arrival ≡ n + 1 → arrivals ≡ arrival → after ≡ slots ++ Some (row_at lane arrival message) ∷ []
    → Lacks message.ident (in_order (stored slots)) → IsQueue (in_order (stored slots)) n → IsQueue (in_order (stored after)) arrivals
queue_more by_priority message slots after lane arrival arrivals n lane_is arrival_is arrivals_is e lacks q =
    subst (λ (a : ℕ). IsQueue (in_order (stored after)) a) (sym (arrivals_is ∙ arrival_is))
    (subst (λ (rows : List Row). IsQueue rows (n + 1)) (sym (rows_more by_priority message slots after lane arrival n lane_is arrival_is e)) (queue_placed by_priority message (in_order (stored slots)) n lacks q))

pub queue_less : (test : Row → Bool) (rows left : List Row) (n m : ℕ) → left ≡ keep test rows → m ≡ n → IsQueue rows n → IsQueue left m
queue_less test rows left n m e f q = subst (λ (a : ℕ). IsQueue left a) (sym f) (subst (λ (rs : List Row). IsQueue rs n) (sym e) (queue_kept test rows n q))

pub queue_same : (change : Row → Row) → KeepsPlaces change → (rows after : List Row) (n m : ℕ) → after ≡ retag change rows → m ≡ n → IsQueue rows n → IsQueue after m
queue_same change k rows after n m e f q = subst (λ (a : ℕ). IsQueue after a) (sym f) (subst (λ (rs : List Row). IsQueue rs n) (sym e) (queue_retagged change k rows n q))

-- where nothing but memory changed
pub queue_stays : (slots after : List (Option Row)) (n m : ℕ) → in_order (stored after) ≡ in_order (stored slots) → m ≡ n → IsQueue (in_order (stored slots)) n → IsQueue (in_order (stored after)) m
queue_stays slots after n m e f q = subst (λ (a : ℕ). IsQueue (in_order (stored after)) a) (sym f) (subst (λ (rs : List Row). IsQueue rs n) (sym e) q)
