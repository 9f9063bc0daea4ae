use Rattle.std.proofs.Common.{ap, sym, subst}
use Rattle.mq_calls.specs.Changes.{forgotten}
use Rattle.mq_place.specs.States.{QueueStates, on_queue}
use Rattle.mq_place.specs.Homes.{home_of}
use Rattle.mq_place.specs.Due.{is_noted, AreListed}
use Rattle.mq_place.proofs.DueLaws.{listed_forgotten}
use Rattle.mq_place.proofs.HomeLaws.{noted_all, home_map}
use Rattle.mq_place.proofs.queues.Queues.forget.Goals as goal

pub invariant_of-self : goal.invariant_of-self
invariant_of-self g c = (
  noted_all (home_of c.self.inside.homes) (forgotten) _ _ _ _ c.self.invariant.0 (ap (λ (v : QueueStates). v.states) c.forget.ensures) (home_map (home_of c.self.inside.homes) (home_of c.self.inside.homes) (on_queue forgotten) (λ s h. h) _ c.self.invariant.0.0),
  subst (AreListed (is_noted c.clear.new.self)) (sym (ap (λ (v : QueueStates). v.states) c.forget.ensures)) (listed_forgotten (is_noted c.self.inside.due) (is_noted c.clear.new.self) _),
)
