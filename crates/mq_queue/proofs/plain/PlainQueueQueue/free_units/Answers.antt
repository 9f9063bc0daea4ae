use Rattle.std.proofs.Common.{arith}
use Rattle.mq_queue.specs.Queues.{unit_freed}
use Rattle.mq_queue.proofs.QueueLaws.{queue_retagged, unit_keeps}
use Rattle.mq_queue.proofs.plain.PlainQueueQueue.free_units.Goals as goal

pub invariant_of-self : goal.invariant_of-self
invariant_of-self c = (rw c.free_units.ensures.rows (queue_retagged unit_freed unit_keeps c.self.inside.rows.items c.self.inside.arrivals c.self.invariant.0), omega (arith, c.free_units.ensures.len, c.free_units.ensures.capacity, c.self.invariant.1), c.counts_of-self-inside.ensures)
