use Rattle.std.proofs.Common.{◌≡◌, drop}
use Rattle.mq_net_conflict.specs.Told.{as_told, told_dids}
use Rattle.mq_net_conflict.proofs.told.told_in.Given as goal

abbrev pub invariant-telling : goal.invariant-telling
invariant-telling l = told_dids l.channel (drop l.did-index l.delta) (as_told l.told) ≡ told_dids l.channel l.fn.delta (as_told l.fn.begun)
