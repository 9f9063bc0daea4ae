use Rattle.mq_queue.specs.Queues.{release_row}
use Rattle.mq_queue.proofs.QueueLaws.{release_keeps}
use Rattle.mq_index.specs.Lanes.{in_order}
use Rattle.mq_index.specs.Walks.{stored}
use Rattle.mq_index.proofs.InsertLaws.{queue_same}
use Rattle.mq_index.proofs.queue.IndexedQueueQueue.release.Goals as goal

pub invariant_of-self : goal.invariant_of-self
invariant_of-self c = queue_same (release_row c.args.ident.now c.args.backed_out) (release_keeps c.args.ident.now c.args.backed_out) (in_order (stored c.self.inside.store.slots)) (in_order (stored c.release_one.new.store.slots)) c.self.inside.store.arrivals c.release_one.new.store.arrivals c.release_one.ensures.rows c.release_one.ensures.arrivals c.self.invariant
