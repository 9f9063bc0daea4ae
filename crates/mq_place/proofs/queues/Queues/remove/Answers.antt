use Rattle.std.proofs.Common.{[], ◌∷◌, refl, sym, ap, subst, arith}
use Rattle.mq_calls.specs.State.Which.{Among}
use Rattle.mq_calls.specs.Changes.{kept_in}
use Rattle.mq_place.specs.States.{QueueStates, on_queue}
use Rattle.mq_place.specs.Homes.{home_of, AreHome, all_pending}
use Rattle.mq_place.specs.Due.{is_noted, AreListed}
use Rattle.mq_place.proofs.DueLaws.{listed_map}
use Rattle.mq_place.proofs.HomeLaws.{removed_home, pending_same}
use Rattle.mq_place.proofs.queues.Queues.remove.Goals as goal

pub invariant_of-self : goal.invariant_of-self
invariant_of-self g c =
    let states = c.self.inside.named.states in
    let is = ap (λ (v : QueueStates). v.states) c.remove.ensures.states in
    let same = pending_same (on_queue (kept_in (Among c.args.name.now (c.args.ident.now ∷ [])))) (λ s. refl) states in (
      (
        subst (AreHome (home_of c.drop_home.new.homes)) (sym is) (removed_home (home_of c.self.inside.homes) (home_of c.drop_home.new.homes) c.args.name.now c.args.ident.now c.drop_home.ensures.home states c.self.invariant.0.0),
        omega (arith, ap all_pending is, same, c.self.invariant.0.1),
        omega (arith, c.self.invariant.0.2, c.drop_home.ensures.spare),
      ),
      subst (AreListed (is_noted c.self.inside.due)) (sym is) (listed_map (is_noted c.self.inside.due) (kept_in (Among c.args.name.now (c.args.ident.now ∷ []))) (λ s h. h) states c.self.invariant.1),
    )
