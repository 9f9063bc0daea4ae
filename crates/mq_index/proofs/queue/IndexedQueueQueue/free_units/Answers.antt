use Rattle.mq_queue.specs.Queues.{unit_freed}
use Rattle.mq_queue.proofs.QueueLaws.{unit_keeps}
use Rattle.mq_index.specs.Lanes.{in_order}
use Rattle.mq_index.specs.Walks.{stored}
use Rattle.mq_index.proofs.InsertLaws.{queue_same}
use Rattle.mq_index.proofs.queue.IndexedQueueQueue.free_units.Goals as goal

pub invariant_of-self : goal.invariant_of-self
invariant_of-self c = queue_same (unit_freed) unit_keeps (in_order (stored c.self.inside.store.slots)) (in_order (stored c.free_slots.new.store.slots)) c.self.inside.store.arrivals c.free_slots.new.store.arrivals c.free_slots.ensures.rows c.free_slots.ensures.arrivals c.self.invariant
