-- What is read of the queues is what the plain manager has.
use Rattle.std.proofs.Common.{◌≡◌, ℕ, ◌+◌, ◌<◌, ◌≤◌, Bool, true, false, cond, List, [], ◌∷◌, refl, ap, arith, ◌∙◌}
use Rattle.std.specs.Prelude.{ℤ, pos, negsuc, Option, Some, None, count_by, not, nat_lt, IsTrue, ◌↔◌, ◌&&◌}
use Rattle.std.specs.Str.{bytes_eq}
use Rattle.std.proofs.lemmas.Bool.Decides.{nat_tests}
use Rattle.mq_calls.specs.State.{fresh_queue}
use Rattle.mq_calls.specs.Words.{Row, Queue, is_free, has_priority, depth, queue_in}
use Rattle.mq_place.specs.from_queue.Queues.{count_waiting}
use Rattle.mq_place.specs.States.{QueueState, queues_of, state_in, state_or, or_fresh, depth_of}
use Rattle.mq_core.specs.Views.{PartsValue, plain_of}
use Rattle.mq_core.specs.Ties.{Tied, pending_at}

any_priority : (priority : ℤ) → has_priority 0 priority ≡ true
any_priority (pos n) = grind (arith, nat_tests)
any_priority (negsuc n) = refl

and_true : (a b : Bool) → b ≡ true → (a && b) ≡ a
and_true true b e = e
and_true false b e = refl

-- each free row has a priority of at least 0
waiting_free : (rows : List Row) → count_waiting 0 rows ≡ count_by is_free rows
waiting_free rows = λ i. count_by (λ (row : Row). and_true (is_free row) (has_priority 0 row.message.md.priority) (any_priority row.message.md.priority) i) rows

pub or_fresh_queue : (name : List ℕ) (qs : List QueueState) → (state_or name qs).queue ≡ queue_in name (queues_of qs)
or_fresh_queue name [] = refl
or_fresh_queue name (q ∷ qs) = by (bytes_eq name q.queue.name) (or_fresh_queue name qs)
  where
    by : (b : Bool) → (state_or name qs).queue ≡ queue_in name (queues_of qs) → (or_fresh name (cond b (Some q) (state_in name qs))).queue ≡ cond b q.queue (queue_in name (queues_of qs))
    by true rest = refl
    by false rest = rest

or_fresh_pending : (name : List ℕ) (o : Option QueueState) → (or_fresh name o).pending ≡ pending_at o
or_fresh_pending name None = refl
or_fresh_pending name (Some s) = refl

pub depth_is : (name : List ℕ) (x : PartsValue) → Tied x → depth_of (state_or name x.queues.states) ≡ depth name (plain_of x)
depth_is name x t =
    let rows = ap (λ (q : Queue). count_waiting 0 q.rows) (or_fresh_queue name x.queues.states) ∙ waiting_free (queue_in name (queues_of x.queues.states)).rows in
    let pending = or_fresh_pending name (state_in name x.queues.states) in
    let puts = t.queues.pending name in
    omega (arith, rows, pending, puts)

-- where no queue has the name
pub queue_none : (name : List ℕ) (qs : List QueueState) → state_in name qs ≡ None → queue_in name (queues_of qs) ≡ fresh_queue name
queue_none name [] e = refl
queue_none name (q ∷ qs) e = by (bytes_eq name q.queue.name) e (queue_none name qs)
  where
    by : (b : Bool) → cond b (Some q) (state_in name qs) ≡ None → (state_in name qs ≡ None → queue_in name (queues_of qs) ≡ fresh_queue name) → cond b q.queue (queue_in name (queues_of qs)) ≡ fresh_queue name
    by true e rest = absurd cc
    by false e rest = rest e

-- so many bytes more fit into the log, or not
false_true : false ≡ true → ⊥
false_true e = absurd cc

pub full_so : (bytes len units max : ℕ) (fits : Bool) → 0 < bytes → (IsTrue fits ↔ (len + units + bytes ≤ max)) → not fits ≡ (nat_lt 0 bytes && nat_lt max (len + units + bytes))
full_so bytes len units max true some h = let le = h.0 refl in grind (arith, nat_tests, some, le)
full_so bytes len units max false some h = by (nat_lt max (len + units + bytes)) refl
  where
    by : (b : Bool) → nat_lt max (len + units + bytes) ≡ b → true ≡ (nat_lt 0 bytes && b)
    by true e = grind (arith, nat_tests, some)
    by false e = absurd (false_true (h.1 (grind (arith, nat_tests, e))))
