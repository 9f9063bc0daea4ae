use Rattle.std.proofs.Common.{sym, ap, ◌∙◌, subst}
use Rattle.mq_place.specs.States.{QueueStates, expecting}
use Rattle.mq_place.specs.Homes.{home_of}
use Rattle.mq_place.proofs.TestLaws.{ok_of}
use Rattle.mq_place.specs.Due.{is_noted, AreListed}
use Rattle.mq_place.proofs.DueLaws.{listed_one}
use Rattle.mq_place.proofs.HomeLaws.{noted_expecting}
use Rattle.mq_place.proofs.queues.Queues.expect.Goals as goal

pub invariant_of-self-2 : goal.invariant_of-self-2
invariant_of-self-2 g c = (
  noted_expecting (home_of c.self.inside.homes) (home_of c.reserve_homes.new.homes) c.reserve_homes.ensures.same c.args.name.now c.self.inside.named.states c.expect.new.self.states c.self.inside.expected _ _ c.self.invariant.0
      (ok_of c.reserve_homes.result (sym c.is_err.ensures.value ∙ c.if-is_err.false) c.reserve_homes.ensures.ok)
      (ap (λ (v : QueueStates). v.states) (ok_of c.expect.result (sym c.is_err-2.ensures.value ∙ c.if-is_err-2.false) c.expect.ensures.ok)),
  subst (AreListed (is_noted c.self.inside.due)) (sym (ap (λ (v : QueueStates). v.states) (ok_of c.expect.result (sym c.is_err-2.ensures.value ∙ c.if-is_err-2.false) c.expect.ensures.ok))) (listed_one (is_noted c.self.inside.due) c.args.name.now expecting (λ s h. h) _ c.self.invariant.1),
)
