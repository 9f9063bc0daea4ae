use Rattle.std.proofs.Common.{ap, arith, sym, subst}
use Rattle.mq_place.specs.States.{QueueStates, with_lanes}
use Rattle.mq_place.specs.Homes.{home_of}
use Rattle.mq_place.specs.Due.{is_noted, AreListed}
use Rattle.mq_place.proofs.DueLaws.{listed_one}
use Rattle.mq_place.proofs.HomeLaws.{noted_one}
use Rattle.mq_place.proofs.queues.Queues.set_by_priority.Goals as goal

pub invariant_of-self : goal.invariant_of-self
invariant_of-self g c = (
  noted_one (home_of c.self.inside.homes) c.args.name.now (with_lanes c.args.prioritized) (λ s h. h) (λ s. omega arith) _ _ _ _ c.self.invariant.0 (ap (λ (v : QueueStates). v.states) c.set_by_priority.ensures),
  subst (AreListed (is_noted c.self.inside.due)) (sym (ap (λ (v : QueueStates). v.states) c.set_by_priority.ensures)) (listed_one (is_noted c.self.inside.due) c.args.name.now (with_lanes c.args.prioritized) (λ s h. h) _ c.self.invariant.1),
)
