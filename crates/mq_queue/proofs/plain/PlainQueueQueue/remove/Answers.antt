use Rattle.std.proofs.Common.{arith}
use Rattle.mq_queue.specs.Queues.{has_other_ident}
use Rattle.mq_queue.proofs.QueueLaws.{queue_kept}
use Rattle.mq_queue.proofs.plain.PlainQueueQueue.remove.Goals as goal

pub invariant_of-self : goal.invariant_of-self
invariant_of-self c = (rw c.take_row.ensures.rows (queue_kept (has_other_ident c.args.ident.now) c.self.inside.rows.items c.self.inside.arrivals c.self.invariant.0), omega (arith, c.take_row.ensures.len, c.take_row.ensures.capacity, c.self.invariant.1), c.take_row.ensures.counts)
