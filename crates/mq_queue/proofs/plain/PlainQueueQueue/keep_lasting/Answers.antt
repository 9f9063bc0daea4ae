use Rattle.std.proofs.Common.{arith}
use Rattle.mq_queue.specs.Queues.{is_lasting}
use Rattle.mq_queue.proofs.QueueLaws.{queue_kept}
use Rattle.mq_queue.proofs.plain.PlainQueueQueue.keep_lasting.Goals as goal

pub invariant_of-self : goal.invariant_of-self
invariant_of-self c = (rw c.keep_lasting.ensures.rows (queue_kept is_lasting c.self.inside.rows.items c.self.inside.arrivals c.self.invariant.0), omega (arith, c.keep_lasting.ensures.len, c.keep_lasting.ensures.capacity, c.self.invariant.1), c.counts_of-self-inside.ensures)
