use Rattle.mq_queue.specs.Queues.{unit_freed}
use Rattle.mq_queue.proofs.QueueLaws.{unit_keeps}
use Rattle.mq_place.proofs.DeadlineLaws.{later_retagged, unit_dates}
use Rattle.mq_place.proofs.LocalLaws.{local_retagged}
use Rattle.mq_place.proofs.local.LocalRows.free_units.Goals as goal

pub invariant_of-self : goal.invariant_of-self
invariant_of-self g c = (
  local_retagged _ _ _ _ _ _ _ c.self.invariant.0 unit_freed unit_keeps c.free_units.ensures.rows c.free_units.ensures.arrivals c.free_units.ensures.room,
  later_retagged (unit_freed) (unit_dates) c.self.inside.soonest _ _ c.free_units.ensures.rows c.self.invariant.1,
)
