use Rattle.std.proofs.Common.{◌≡◌, drop}
use Rattle.mq_net_rows.specs.Stored.{queues_find}
use Rattle.mq_net_rows.proofs.shelves.queues_row.Given as goal

abbrev pub invariant-loop-queue : goal.invariant-loop-queue
invariant-loop-queue l = queues_find l.ident l.store (drop l.queue-index l.queues) ≡ queues_find l.ident l.store l.fn.queues
