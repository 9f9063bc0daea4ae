use Rattle.std.proofs.Common.{◌≡◌, drop}
use Rattle.mq_net_conflict.specs.Told.{first_of}
use Rattle.mq_spec_network.specs.Conflict.{deeds}
use Rattle.mq_story.specs.Spots.{lines_of}
use Rattle.mq_net_conflict.proofs.settlements.first_conflict.Given as goal

abbrev pub invariant-loop-spot : goal.invariant-loop-spot
invariant-loop-spot l = first_of l.scenario l.histories (deeds (lines_of l.histories l.spots)) (drop l.spot-index l.left) ≡ first_of l.scenario l.histories (deeds (lines_of l.histories l.spots)) l.fn.left
