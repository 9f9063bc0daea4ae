use Rattle.std.proofs.Common.{◌≡◌, take, length}
use Rattle.std.specs.Prelude.{sum_by}
use Rattle.mq_net_stands.specs.declared.standing.QueueStanding.{QueueStanding}
use Rattle.mq_soak.proofs.line.rows_at.Given as goal

abbrev pub invariant-loop-queue : goal.invariant-loop-queue
invariant-loop-queue l = l.rows ≡ sum_by (λ (q : QueueStanding). length q.rows) (take l.queue-index l.manager.queues)
