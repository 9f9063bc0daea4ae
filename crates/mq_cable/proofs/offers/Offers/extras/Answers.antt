use Rattle.std.proofs.Common.{◌+◌, arith}
use Rattle.mq_cable.proofs.Fits.{left_fit, later_fit}
use Rattle.mq_cable.proofs.offers.Offers.extras.Goals as goal

pub invariant_of-self : goal.invariant_of-self
invariant_of-self g c =
    let old = c.self.inside in
    left_fit (old.number + 1) old.kept.items c.push_due.new.kept.items (old.number + 1) c.push_due.ensures.left (later_fit old.kept.items old.number (old.number + 1) (omega arith) c.self.invariant)
