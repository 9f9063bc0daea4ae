use Rattle.std.specs.Prelude.{List, Option}
use Rattle.std.proofs.Common.{ap, ◌∙◌}
use Rattle.mq_queue.specs.declared.row.Row.{Row}
use Rattle.mq_index.specs.Lanes.{in_order}
use Rattle.mq_index.specs.Walks.{stored}
use Rattle.mq_index.proofs.InsertLaws.{queue_stays}
use Rattle.mq_index.proofs.queue.IndexedQueueQueue.reserve.Goals as goal

pub invariant_of-self : goal.invariant_of-self
invariant_of-self c =
    queue_stays c.self.inside.store.slots c.reserve.new.self.slots c.self.inside.store.arrivals c.reserve.new.self.arrivals (ap (λ (ss : List (Option Row)). in_order (stored ss)) c.reserve.ensures.slots ∙ ap in_order c.pack.ensures.rows) (c.reserve.ensures.arrivals ∙ c.pack.ensures.arrivals) c.self.invariant
