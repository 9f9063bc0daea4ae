use Rattle.mq_queue.specs.Queues.{has_other_ident}
use Rattle.mq_place.proofs.DeadlineLaws.{later_kept}
use Rattle.mq_place.proofs.LocalLaws.{local_kept}
use Rattle.mq_place.proofs.local.LocalRows.remove.Goals as goal

pub invariant_of-self : goal.invariant_of-self
invariant_of-self g c = (
  local_kept _ _ _ _ _ _ _ c.self.invariant.0 (has_other_ident c.args.ident.now) c.remove.ensures.rows c.remove.ensures.arrivals c.remove.ensures.room,
  later_kept (has_other_ident c.args.ident.now) c.self.inside.soonest _ _ c.remove.ensures.rows c.self.invariant.1,
)
