use Rattle.std.proofs.Common.{sym, subst, ◌+◌}
use Rattle.mq_place.specs.States.{QueueState, CanPlace}
use Rattle.mq_place.specs.Deadlines.{AreLater}
use Rattle.mq_place.proofs.DeadlineLaws.{later_placed}
use Rattle.mq_place.proofs.LocalLaws.{local_placed}
use Rattle.mq_place.proofs.local.LocalRows.place.Goals as goal

pub invariant_of-self : goal.invariant_of-self
invariant_of-self g c =
    let can = subst (CanPlace c.args.message) (sym c.self.view_is) c.requires in (
      local_placed _ _ _ _ _ _ _ c.self.invariant.0 (g.Q.Queue.by_priority c.self.inside.queue) c.args.message can.fresh can.expected c.insert.ensures.rows c.insert.ensures.arrivals c.insert.ensures.room,
      later_placed (g.Q.Queue.by_priority c.self.inside.queue) (g.Q.Queue.arrivals c.self.inside.queue + 1) c.args.message c.soonest_now-soonest.result c.sooner-self-inside.result _ _ c.sooner-self-inside.ensures c.insert.ensures.rows (subst (λ (s : QueueState). AreLater c.soonest_now-soonest.result s.queue.rows) (sym c.self.view_is) c.soonest_now-soonest.ensures),
    )
