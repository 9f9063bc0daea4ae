use Rattle.mq_queue.specs.Queues.{hold_row}
use Rattle.mq_queue.proofs.QueueLaws.{hold_keeps}
use Rattle.mq_place.proofs.DeadlineLaws.{later_retagged, hold_dates}
use Rattle.mq_place.proofs.LocalLaws.{local_retagged}
use Rattle.mq_place.proofs.local.LocalRows.hold.Goals as goal

pub invariant_of-self : goal.invariant_of-self
invariant_of-self g c = (
  local_retagged _ _ _ _ _ _ _ c.self.invariant.0 (hold_row c.args.ident.now c.args.by.now) (hold_keeps c.args.ident.now c.args.by.now) c.hold.ensures.rows c.hold.ensures.arrivals c.hold.ensures.room,
  later_retagged (hold_row c.args.ident.now c.args.by.now) (hold_dates c.args.ident.now c.args.by.now) c.self.inside.soonest _ _ c.hold.ensures.rows c.self.invariant.1,
)
