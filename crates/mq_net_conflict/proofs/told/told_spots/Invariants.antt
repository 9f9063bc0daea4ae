use Rattle.std.proofs.Common.{◌≡◌, drop}
use Rattle.mq_net_conflict.specs.Told.{as_told, told_spots}
use Rattle.mq_net_conflict.proofs.told.told_spots.Given as goal

abbrev pub invariant-telling : goal.invariant-telling
invariant-telling l = told_spots l.histories l.channel (drop l.spot-index l.spots) (as_told l.told) ≡ told_spots l.histories l.channel l.fn.spots (as_told l.fn.begun)
