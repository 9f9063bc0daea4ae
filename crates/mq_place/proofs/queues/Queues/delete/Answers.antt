use Rattle.std.proofs.Common.{sym, subst}
use Rattle.mq_place.specs.States.{without_state}
use Rattle.mq_place.specs.Homes.{home_of}
use Rattle.mq_place.specs.Due.{is_noted, AreListed}
use Rattle.mq_place.proofs.DueLaws.{listed_without}
use Rattle.mq_place.proofs.HomeLaws.{noted, without_home, pending_left}
use Rattle.mq_place.proofs.queues.Queues.delete.Goals as goal

pub invariant_of-self : goal.invariant_of-self
invariant_of-self g c =
    let states = c.self.inside.named.states in (
      noted (home_of c.self.inside.homes) states (without_state c.args.name.now states) _ _ _ c.self.invariant.0 c.delete.ensures.states (without_home (home_of c.self.inside.homes) c.args.name.now states c.self.invariant.0.0) (pending_left c.args.name.now states),
      subst (AreListed (is_noted c.drop_name.new.self)) (sym c.delete.ensures.states) (listed_without (is_noted c.self.inside.due) (is_noted c.drop_name.new.self) c.args.name.now c.drop_name.ensures states c.self.invariant.1),
    )
