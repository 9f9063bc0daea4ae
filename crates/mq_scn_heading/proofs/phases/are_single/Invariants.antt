use Rattle.std.proofs.Common.{◌≡◌, length}
use Rattle.mq_scn_heading.specs.Phases.{are_single}
use Rattle.mq_scn_heading.proofs.phases.are_single.Given as goal

abbrev pub invariant-comparing : goal.invariant-comparing
invariant-comparing l = are_single l.places ≡ are_single l.rest

abbrev pub decreases-comparing : goal.decreases-comparing
decreases-comparing l = length l.rest
