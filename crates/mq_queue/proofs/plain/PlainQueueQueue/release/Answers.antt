use Rattle.std.proofs.Common.{arith}
use Rattle.mq_queue.specs.Queues.{release_row}
use Rattle.mq_queue.proofs.QueueLaws.{queue_retagged, release_keeps}
use Rattle.mq_queue.proofs.plain.PlainQueueQueue.release.Goals as goal

pub invariant_of-self : goal.invariant_of-self
invariant_of-self c = (rw c.release_one.ensures.rows (queue_retagged (release_row c.args.ident.now c.args.backed_out) (release_keeps c.args.ident.now c.args.backed_out) c.self.inside.rows.items c.self.inside.arrivals c.self.invariant.0), omega (arith, c.release_one.ensures.len, c.release_one.ensures.capacity, c.self.invariant.1), c.release_one.ensures.counts)
