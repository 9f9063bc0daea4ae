use Rattle.std.proofs.Common.{ap, arith, sym, subst}
use Rattle.mq_calls.specs.Changes.{made_due}
use Rattle.mq_place.specs.States.{QueueStates, on_queue}
use Rattle.mq_place.specs.Homes.{home_of}
use Rattle.mq_place.specs.Due.{is_noted, AreListed}
use Rattle.mq_place.proofs.DueLaws.{listed_due, known_noted}
use Rattle.mq_place.proofs.HomeLaws.{noted_one}
use Rattle.mq_place.proofs.queues.Queues.make_due.Goals as goal

pub invariant_of-self : goal.invariant_of-self
invariant_of-self g c = (
  noted_one (home_of c.self.inside.homes) c.args.name.now (on_queue (made_due c.args.depth c.args.moment)) (λ s h. h) (λ s. omega arith) _ _ _ _ c.self.invariant.0 (ap (λ (v : QueueStates). v.states) c.make_due.ensures),
  subst (AreListed (is_noted c.add.new.self)) (sym (ap (λ (v : QueueStates). v.states) c.make_due.ensures)) (listed_due (is_noted c.self.inside.due) (is_noted c.add.new.self) c.args.name.now c.args.depth c.args.moment c.add.ensures.there c.add.ensures.kept _ c.self.invariant.1),
)

pub add-requires : goal.add-requires
add-requires g c = record { known = λ k. known_noted (is_noted c.self.inside.due) c.args.name.now c.self.inside.named.states c.has_due-known.result c.self.invariant.1 c.has_due-known.ensures.value k }
