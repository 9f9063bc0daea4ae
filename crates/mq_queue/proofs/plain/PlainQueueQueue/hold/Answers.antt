use Rattle.std.proofs.Common.{arith}
use Rattle.mq_queue.specs.Queues.{hold_row}
use Rattle.mq_queue.proofs.QueueLaws.{queue_retagged, hold_keeps}
use Rattle.mq_queue.proofs.plain.PlainQueueQueue.hold.Goals as goal

pub invariant_of-self : goal.invariant_of-self
invariant_of-self c = (rw c.hold_one.ensures.rows (queue_retagged (hold_row c.args.ident.now c.args.by.now) (hold_keeps c.args.ident.now c.args.by.now) c.self.inside.rows.items c.self.inside.arrivals c.self.invariant.0), omega (arith, c.hold_one.ensures.len, c.hold_one.ensures.capacity, c.self.invariant.1), c.hold_one.ensures.counts)
