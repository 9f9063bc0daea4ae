use Rattle.std.proofs.Common.{◌≡◌, ◌++◌, drop}
use Rattle.mq_spec_network.specs.Given.{handlers_from}
use Rattle.mq_owned.proofs.owned.handlers_of.Given as goal

abbrev pub invariant-loop-number : goal.invariant-loop-number
invariant-loop-number l = l.handlers ++ handlers_from l.manager l.number (drop l.number l.parts) ≡ handlers_from l.manager 0 l.parts
