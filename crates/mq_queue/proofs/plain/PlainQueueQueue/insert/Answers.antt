use Rattle.std.proofs.Common.{arith}
use Rattle.mq_queue.proofs.QueueLaws.{queue_placed}
use Rattle.mq_queue.proofs.plain.PlainQueueQueue.insert.Goals as goal

pub invariant_of-self : goal.invariant_of-self
invariant_of-self c = (rw (c.put_row.ensures.rows, c.lane_of-lane.ensures) (queue_placed c.self.inside.by_priority c.args.message c.self.inside.rows.items c.self.inside.arrivals (rw (← c.self.view_is) at c.requires.fresh) c.self.invariant.0), omega (arith, c.put_row.ensures.len, c.put_row.ensures.capacity, c.self.invariant.1), c.put_row.ensures.counts)
