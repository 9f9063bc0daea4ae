use Rattle.std.proofs.Common.{ℕ, List, ap, sym, subst, ◌∙◌}
use Rattle.mq_sides.specs.Bonds.{BondsKept}
use Rattle.mq_sides.specs.Places.{AreByName}
use Rattle.mq_sides.proofs.bonds.Bonds.clear.Goals as goal

kept : List (List ℕ) → List (List ℕ) → BondsKept
kept bound seats = record { bound = bound; seats = seats }

pub invariant_of-self : goal.invariant_of-self
invariant_of-self c = subst (λ (ns : List (List ℕ)). AreByName (λ (n : List ℕ). n) ns) (sym c.clear_all.ensures.seats) c.self.invariant

pub returns : goal.returns
unfolding kept
returns c =
    let seats = c.clear_all.ensures.seats ∙ ap (λ (k : BondsKept). k.seats) c.self.view_is in
    λ i. kept (c.clear_all.ensures.bound i) (seats i)
