use Rattle.std.proofs.Common.{◌≡◌, drop}
use Rattle.mq_spec_network.specs.Standing.{opening_managers}
use Rattle.mq_spec_network.specs.Apart.{cables_apart}
use Rattle.mq_net_apart.proofs.cables.cables_apart.Given as goal

abbrev pub invariant-loop-at : goal.invariant-loop-at
invariant-loop-at l = cables_apart l.scenario (opening_managers l.scenario l.histories) l.at (drop l.at l.cables) ≡ cables_apart l.scenario (opening_managers l.scenario l.histories) 0 l.fn.cables
