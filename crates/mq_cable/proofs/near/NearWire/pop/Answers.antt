use Rattle.std.proofs.Common.{sym, subst}
use Rattle.mq_cable.specs.Lists.{AllLow}
use Rattle.mq_cable.proofs.Fits.{low_after}
use Rattle.mq_cable.proofs.near.NearWire.pop.Goals as goal

pub returns-clause-low : goal.returns-clause-low
returns-clause-low c = λ h. subst AllLow (sym c.pop.ensures.rest) (low_after c.args.self.now.read h)
