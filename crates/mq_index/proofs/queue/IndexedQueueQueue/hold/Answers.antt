use Rattle.mq_queue.specs.Queues.{hold_row}
use Rattle.mq_queue.proofs.QueueLaws.{hold_keeps}
use Rattle.mq_index.specs.Lanes.{in_order}
use Rattle.mq_index.specs.Walks.{stored}
use Rattle.mq_index.proofs.InsertLaws.{queue_same}
use Rattle.mq_index.proofs.queue.IndexedQueueQueue.hold.Goals as goal

pub invariant_of-self : goal.invariant_of-self
invariant_of-self c = queue_same (hold_row c.args.ident.now c.args.by.now) (hold_keeps c.args.ident.now c.args.by.now) (in_order (stored c.self.inside.store.slots)) (in_order (stored c.hold_one.new.store.slots)) c.self.inside.store.arrivals c.hold_one.new.store.arrivals c.hold_one.ensures.rows c.hold_one.ensures.arrivals c.self.invariant
