use Rattle.std.proofs.Common.{◌<◌, ◌≤◌, sym, ap, subst, arith}
use Rattle.std.specs.Prelude.{IfSome}
use Rattle.mq_place.specs.States.{QueueStates, state_in, state_or, CanPlace, IsNowhere, arrived}
use Rattle.mq_place.specs.Homes.{home_of}
use Rattle.mq_place.specs.Due.{is_noted, AreListed}
use Rattle.mq_place.proofs.DueLaws.{listed_one}
use Rattle.mq_place.proofs.HomeLaws.{noted_placed, noted_absent, enough, waits_there, waits_not}
use Rattle.mq_place.proofs.queues.Queues.place.Goals as goal

pub overflow_sub-self : goal.overflow_sub-self
overflow_sub-self g c = enough (home_of c.self.inside.homes) c.args.name.now _ _ _ c.self.invariant.0 (subst (λ (v : QueueStates). 0 < (state_or c.args.name.now v.states).pending) (sym c.self.view_is) (waits_there _ _ c.waits.ensures c.if-waits.true))

pub note_home-requires : goal.note_home-requires
note_home-requires g c = let one = enough (home_of c.self.inside.homes) c.args.name.now _ _ _ c.self.invariant.0 (subst (λ (v : QueueStates). 0 < (state_or c.args.name.now v.states).pending) (sym c.self.view_is) (waits_there _ _ c.waits.ensures c.if-waits.true)) in omega (arith, one, c.self.invariant.0.2)

pub invariant_of-self : goal.invariant_of-self
invariant_of-self g c = (
  noted_placed (home_of c.self.inside.homes) (home_of c.note_home.new.homes) c.args.name.now c.args.message c.note_home.ensures.home _ _ _ _ _ c.self.invariant.0 c.note_home.ensures.spare (subst (λ (v : QueueStates). 0 < (state_or c.args.name.now v.states).pending) (sym c.self.view_is) (waits_there _ _ c.waits.ensures c.if-waits.true)) (subst (λ (v : QueueStates). IsNowhere c.args.message.ident v.states) (sym c.self.view_is) c.requires.fresh)
      (ap (λ (v : QueueStates). v.states) c.place.ensures),
  subst (AreListed (is_noted c.self.inside.due)) (sym (ap (λ (v : QueueStates). v.states) c.place.ensures)) (listed_one (is_noted c.self.inside.due) c.args.name.now (arrived c.args.message) (λ s h. h) _ c.self.invariant.1),
)

pub invariant_of-self-else-waits : goal.invariant_of-self-else-waits
invariant_of-self-else-waits g c = (
  noted_absent (home_of c.self.inside.homes) c.args.name.now c.args.message _ _ _ _ c.self.invariant.0 (subst (λ (v : QueueStates). (state_or c.args.name.now v.states).pending ≤ 0) (sym c.self.view_is) (waits_not _ _ c.waits.ensures c.if-waits.false)) (subst (λ (v : QueueStates). IfSome (state_in c.args.name.now v.states) (CanPlace c.args.message)) (sym c.self.view_is) c.requires.can) (ap (λ (v : QueueStates). v.states) c.place-else-waits.ensures),
  subst (AreListed (is_noted c.self.inside.due)) (sym (ap (λ (v : QueueStates). v.states) c.place-else-waits.ensures)) (listed_one (is_noted c.self.inside.due) c.args.name.now (arrived c.args.message) (λ s h. h) _ c.self.invariant.1),
)
