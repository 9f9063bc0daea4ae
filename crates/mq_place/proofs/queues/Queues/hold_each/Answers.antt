use Rattle.std.proofs.Common.{ap, sym, subst}
use Rattle.mq_calls.specs.State.Which.{Among}
use Rattle.mq_calls.specs.Changes.{held_in}
use Rattle.mq_place.specs.States.{QueueStates}
use Rattle.mq_place.specs.Homes.{home_of}
use Rattle.mq_place.specs.Due.{is_noted, AreListed}
use Rattle.mq_place.proofs.DueLaws.{listed_map}
use Rattle.mq_place.proofs.HomeLaws.{noted_all, held_home}
use Rattle.mq_place.proofs.queues.Queues.hold_each.Goals as goal

pub invariant_of-self : goal.invariant_of-self
invariant_of-self g c = (
  noted_all (home_of c.self.inside.homes) (held_in (Among c.args.name.now c.args.idents.now) c.args.by.now) _ _ _ _ c.self.invariant.0 (ap (λ (v : QueueStates). v.states) c.hold_each.ensures) (held_home (home_of c.self.inside.homes) (Among c.args.name.now c.args.idents.now) c.args.by.now _ c.self.invariant.0.0),
  subst (AreListed (is_noted c.self.inside.due)) (sym (ap (λ (v : QueueStates). v.states) c.hold_each.ensures)) (listed_map (is_noted c.self.inside.due) (held_in (Among c.args.name.now c.args.idents.now) c.args.by.now) (λ s h. h) _ c.self.invariant.1),
)
