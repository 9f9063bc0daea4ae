use Rattle.std.proofs.Common.{◌≡◌, ◌++◌, drop}
use Rattle.mq_spec_network.specs.Given.{scripts_from}
use Rattle.mq_owned.proofs.owned.scripts_of.Given as goal

abbrev pub invariant-loop-number : goal.invariant-loop-number
invariant-loop-number l = l.scripts ++ scripts_from l.manager l.number (drop l.number l.parts) ≡ scripts_from l.manager 0 l.parts
