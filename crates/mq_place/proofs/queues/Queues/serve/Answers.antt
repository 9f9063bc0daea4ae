use Rattle.std.proofs.Common.{ap, arith, sym, subst}
use Rattle.mq_place.specs.States.{QueueStates, on_queue, served}
use Rattle.mq_place.specs.Homes.{home_of}
use Rattle.mq_place.specs.Due.{is_noted, AreListed}
use Rattle.mq_place.proofs.DueLaws.{listed_one, listed_served, served_listed, none_left}
use Rattle.mq_place.proofs.HomeLaws.{noted_one}
use Rattle.mq_place.proofs.queues.Queues.serve.Goals as goal

pub invariant_of-self : goal.invariant_of-self
invariant_of-self g c = (
  noted_one (home_of c.self.inside.homes) c.args.name.now (on_queue served) (λ s h. h) (λ s. omega arith) _ _ _ _ c.self.invariant.0 (ap (λ (v : QueueStates). v.states) c.serve.ensures),
  subst (AreListed (is_noted c.self.inside.due)) (sym (ap (λ (v : QueueStates). v.states) c.serve.ensures)) (listed_one (is_noted c.self.inside.due) c.args.name.now (on_queue served) (served_listed (is_noted c.self.inside.due)) _ c.self.invariant.1),
)

pub invariant_of-self-2 : goal.invariant_of-self-2
invariant_of-self-2 g c =
    let is = ap (λ (v : QueueStates). v.states) c.serve.ensures in (
      noted_one (home_of c.self.inside.homes) c.args.name.now (on_queue served) (λ s h. h) (λ s. omega arith) _ _ _ _ c.self.invariant.0 (ap (λ (v : QueueStates). v.states) c.serve.ensures),
      listed_served (is_noted c.self.inside.due) (is_noted c.drop_name.new.self) c.args.name.now c.drop_name.ensures c.serve.new.self.states c.has_due.ensures.apart (none_left _ _ c.has_due.ensures.value c.if-has_due.false) (subst (AreListed (is_noted c.self.inside.due)) (sym is) (listed_one (is_noted c.self.inside.due) c.args.name.now (on_queue served) (served_listed (is_noted c.self.inside.due)) _ c.self.invariant.1)),
    )
