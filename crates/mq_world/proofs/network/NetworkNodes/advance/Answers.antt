use Rattle.std.proofs.Common.{ℕ, ◌≤◌, subst, sym}
use Rattle.mq_world.proofs.network.NetworkNodes.advance.Goals as goal

pub invariant_of-self : goal.invariant_of-self
invariant_of-self g c = (
  c.advance.ensures.kept,
  subst (λ (n : ℕ). n ≤ c.self.inside.room) (sym c.advance.ensures.long) c.self.invariant.1,
  λ tells. c.advance.ensures.own tells (c.self.invariant.2 tells),
)
