use Rattle.mq_queue.specs.Queues.{is_lasting}
use Rattle.mq_index.specs.Lanes.{in_order}
use Rattle.mq_index.specs.Walks.{stored}
use Rattle.mq_index.proofs.InsertLaws.{queue_less}
use Rattle.mq_index.proofs.queue.IndexedQueueQueue.keep_lasting.Goals as goal

pub invariant_of-self : goal.invariant_of-self
invariant_of-self c = queue_less (is_lasting) (in_order (stored c.self.inside.store.slots)) (in_order (stored c.keep_slots.new.store.slots)) c.self.inside.store.arrivals c.keep_slots.new.store.arrivals c.keep_slots.ensures.rows c.keep_slots.ensures.arrivals c.self.invariant
