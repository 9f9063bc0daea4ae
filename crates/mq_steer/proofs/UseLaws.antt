-- What is read of the queues, as the plain manager has it.
use Rattle.std.proofs.Common.{◌≡◌, ℕ, ◌+◌, List, [], ◌∷◌, length, refl, ap, arith}
use Rattle.std.specs.Prelude.{Option, Some, None, nat_lt}
use Rattle.mq_calls.specs.Words.{Queue, has_rows, queue_in, puts_to}
use Rattle.mq_place.specs.States.{QueueState, queues_of, state_in, state_or, or_fresh, size_of}
use Rattle.mq_core.specs.Views.{PartsValue, plain_of}
use Rattle.mq_core.specs.Ties.{Tied, pending_at}
use Rattle.mq_core.proofs.ReadLaws.{or_fresh_queue as fresh_queue}

fresh_pending : (name : List ℕ) (o : Option QueueState) → (or_fresh name o).pending ≡ pending_at o
fresh_pending name None = refl
fresh_pending name (Some s) = refl

pub rows_are : (name : List ℕ) (x : PartsValue) → Tied x → nat_lt 0 (size_of (state_or name x.queues.states)) ≡ has_rows name (plain_of x)
rows_are name x t =
    let rows = ap (λ (q : Queue). length q.rows) (fresh_queue name x.queues.states) in
    let pending = fresh_pending name (state_in name x.queues.states) in
    let puts = t.queues.pending name in
    let same : size_of (state_or name x.queues.states) ≡ length (queue_in name (queues_of x.queues.states)).rows + puts_to name x.desk.live = omega (arith, rows, pending, puts) in
    ap (nat_lt 0) same
