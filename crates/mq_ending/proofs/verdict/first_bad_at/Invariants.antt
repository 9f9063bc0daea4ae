use Rattle.std.proofs.Common.{◌≡◌, drop}
use Rattle.mq_ending.specs.Verdicts.{first_bad_at}
use Rattle.mq_ending.proofs.verdict.first_bad_at.Given as goal

abbrev pub invariant-loop-spot : goal.invariant-loop-spot
invariant-loop-spot l = first_bad_at l.histories (drop l.spot-index l.spots) ≡ first_bad_at l.histories l.fn.spots
