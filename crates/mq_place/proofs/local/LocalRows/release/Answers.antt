use Rattle.mq_queue.specs.Queues.{release_row}
use Rattle.mq_queue.proofs.QueueLaws.{release_keeps}
use Rattle.mq_place.proofs.DeadlineLaws.{later_retagged, release_dates}
use Rattle.mq_place.proofs.LocalLaws.{local_retagged}
use Rattle.mq_place.proofs.local.LocalRows.release.Goals as goal

pub invariant_of-self : goal.invariant_of-self
invariant_of-self g c = (
  local_retagged _ _ _ _ _ _ _ c.self.invariant.0 (release_row c.args.ident.now c.args.backed_out) (release_keeps c.args.ident.now c.args.backed_out) c.release.ensures.rows c.release.ensures.arrivals c.release.ensures.room,
  later_retagged (release_row c.args.ident.now c.args.backed_out) (release_dates c.args.ident.now c.args.backed_out) c.self.inside.soonest _ _ c.release.ensures.rows c.self.invariant.1,
)
