use Rattle.std.proofs.Common.{◌++◌, ◌∷◌, [], arith, sym, subst}
use Rattle.mq_place.specs.States.{fresh_state}
use Rattle.mq_place.specs.Homes.{home_of}
use Rattle.mq_place.specs.Due.{is_noted, AreListed}
use Rattle.mq_place.proofs.DueLaws.{listed_pushed}
use Rattle.mq_place.proofs.HomeLaws.{noted, pushed_home, pending_pushed}
use Rattle.mq_place.proofs.queues.Queues.define.Goals as goal

pub invariant_of-self : goal.invariant_of-self
invariant_of-self g c =
    let states = c.self.inside.named.states in (
      noted (home_of c.self.inside.homes) states (states ++ fresh_state c.args.name.now c.args.prioritized ∷ []) _ _ _ c.self.invariant.0 c.define.ensures.states (pushed_home (home_of c.self.inside.homes) c.args.name.now c.args.prioritized states c.self.invariant.0.0)
          (omega (arith, pending_pushed c.args.name.now c.args.prioritized states)),
      subst (AreListed (is_noted c.self.inside.due)) (sym c.define.ensures.states) (listed_pushed (is_noted c.self.inside.due) c.args.name.now c.args.prioritized states c.self.invariant.1),
    )
