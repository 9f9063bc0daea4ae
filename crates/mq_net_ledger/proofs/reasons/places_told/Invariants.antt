use Rattle.mq_net_apart.specs.from_net_rows.Homes.{home_of}
use Rattle.mq_net_ledger.specs.Reasons.{AreTo}
use Rattle.mq_net_ledger.proofs.reasons.places_told.Given as goal

abbrev pub invariant-noting : goal.invariant-noting
invariant-noting l = AreTo l.left (home_of l.known) l.delta

abbrev pub decreases-noting : goal.decreases-noting
decreases-noting l = l.left
