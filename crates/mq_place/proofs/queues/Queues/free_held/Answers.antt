use Rattle.std.proofs.Common.{false, ap, sym, subst}
use Rattle.mq_calls.specs.State.Which.{HeldBy}
use Rattle.mq_calls.specs.Changes.{released_in}
use Rattle.mq_place.specs.States.{QueueStates}
use Rattle.mq_place.specs.Homes.{home_of}
use Rattle.mq_place.specs.Due.{is_noted, AreListed}
use Rattle.mq_place.proofs.DueLaws.{listed_map}
use Rattle.mq_place.proofs.HomeLaws.{noted_all, released_home}
use Rattle.mq_place.proofs.queues.Queues.free_held.Goals as goal

pub invariant_of-self : goal.invariant_of-self
invariant_of-self g c = (
  noted_all (home_of c.self.inside.homes) (released_in (HeldBy c.args.by.now) false) _ _ _ _ c.self.invariant.0 (ap (λ (v : QueueStates). v.states) c.free_held.ensures) (released_home (home_of c.self.inside.homes) (HeldBy c.args.by.now) false _ c.self.invariant.0.0),
  subst (AreListed (is_noted c.self.inside.due)) (sym (ap (λ (v : QueueStates). v.states) c.free_held.ensures)) (listed_map (is_noted c.self.inside.due) (released_in (HeldBy c.args.by.now) false) (λ s h. h) _ c.self.invariant.1),
)
