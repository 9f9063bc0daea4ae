use Rattle.std.proofs.Common.{◌≡◌, ◌++◌, drop}
use Rattle.mq_spec_network.specs.Given.{monitors_from}
use Rattle.mq_owned.proofs.owned.monitors_of.Given as goal

abbrev pub invariant-loop-number : goal.invariant-loop-number
invariant-loop-number l = l.monitors ++ monitors_from l.manager l.number (drop l.number l.lines) ≡ monitors_from l.manager 0 l.lines
