use Rattle.std.proofs.Common.{◌<◌, sym, ap, subst, arith}
use Rattle.mq_place.specs.States.{QueueStates, state_or, unpended}
use Rattle.mq_place.specs.Homes.{home_of}
use Rattle.mq_place.specs.Due.{is_noted, AreListed}
use Rattle.mq_place.proofs.DueLaws.{listed_one}
use Rattle.mq_place.proofs.HomeLaws.{noted_one, noted_unpended, enough, waits_there}
use Rattle.mq_place.proofs.queues.Queues.unpend.Goals as goal

pub overflow_sub-self : goal.overflow_sub-self
overflow_sub-self g c = enough (home_of c.self.inside.homes) c.args.name.now _ _ _ c.self.invariant.0 (subst (λ (v : QueueStates). 0 < (state_or c.args.name.now v.states).pending) (sym c.self.view_is) (waits_there _ _ c.waits.ensures c.if-waits.true))

pub invariant_of-self : goal.invariant_of-self
invariant_of-self g c = (
  noted_unpended (home_of c.self.inside.homes) c.args.name.now _ _ _ _ c.self.invariant.0 (subst (λ (v : QueueStates). 0 < (state_or c.args.name.now v.states).pending) (sym c.self.view_is) (waits_there _ _ c.waits.ensures c.if-waits.true)) (ap (λ (v : QueueStates). v.states) c.unpend.ensures),
  subst (AreListed (is_noted c.self.inside.due)) (sym (ap (λ (v : QueueStates). v.states) c.unpend.ensures)) (listed_one (is_noted c.self.inside.due) c.args.name.now unpended (λ s h. h) _ c.self.invariant.1),
)

pub invariant_of-self-else-waits : goal.invariant_of-self-else-waits
invariant_of-self-else-waits g c = (
  noted_one (home_of c.self.inside.homes) c.args.name.now unpended (λ s h. h) (λ s. omega arith) _ _ _ _ c.self.invariant.0 (ap (λ (v : QueueStates). v.states) c.unpend-else-waits.ensures),
  subst (AreListed (is_noted c.self.inside.due)) (sym (ap (λ (v : QueueStates). v.states) c.unpend-else-waits.ensures)) (listed_one (is_noted c.self.inside.due) c.args.name.now unpended (λ s h. h) _ c.self.invariant.1),
)
