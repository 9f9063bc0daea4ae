use Rattle.std.proofs.Common.{◌≡◌, drop}
use Rattle.mq_net_conflict.specs.Told.{first_in}
use Rattle.mq_spec_network.specs.Standing.{opening_managers}
use Rattle.mq_spec_network.specs.Conflict.{deeds}
use Rattle.mq_story.specs.Spots.{lines_of}
use Rattle.mq_net_conflict.proofs.settlements.conflict_in.Given as goal

abbrev pub invariant-loop-did : goal.invariant-loop-did
invariant-loop-did l = first_in l.scenario (opening_managers l.scenario l.histories) (deeds (lines_of l.histories l.spots)) l.manager (drop l.did-index l.delta) ≡ first_in l.scenario (opening_managers l.scenario l.histories) (deeds (lines_of l.histories l.spots)) l.manager l.fn.delta
