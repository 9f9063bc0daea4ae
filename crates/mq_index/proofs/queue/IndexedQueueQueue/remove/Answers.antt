use Rattle.mq_queue.specs.Queues.{has_other_ident}
use Rattle.mq_index.specs.Lanes.{in_order}
use Rattle.mq_index.specs.Walks.{stored}
use Rattle.mq_index.proofs.InsertLaws.{queue_less}
use Rattle.mq_index.proofs.queue.IndexedQueueQueue.remove.Goals as goal

pub invariant_of-self : goal.invariant_of-self
invariant_of-self c = queue_less (has_other_ident c.args.ident.now) (in_order (stored c.self.inside.store.slots)) (in_order (stored c.take_one.new.store.slots)) c.self.inside.store.arrivals c.take_one.new.store.arrivals c.take_one.ensures.rows c.take_one.ensures.arrivals c.self.invariant
