use Rattle.mq_queue.specs.Queues.{is_lasting}
use Rattle.mq_place.proofs.DeadlineLaws.{later_kept}
use Rattle.mq_place.proofs.LocalLaws.{local_kept}
use Rattle.mq_place.proofs.local.LocalRows.keep_lasting.Goals as goal

pub invariant_of-self : goal.invariant_of-self
invariant_of-self g c = (
  local_kept _ _ _ _ _ _ _ c.self.invariant.0 is_lasting c.keep_lasting.ensures.rows c.keep_lasting.ensures.arrivals c.keep_lasting.ensures.room,
  later_kept (is_lasting) c.self.inside.soonest _ _ c.keep_lasting.ensures.rows c.self.invariant.1,
)
