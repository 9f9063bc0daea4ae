use Rattle.std.proofs.Common.{◌≡◌, drop}
use Rattle.mq_spec_network.specs.Ledger.{received_on}
use Rattle.mq_net_ledger.proofs.answers.received_on.Given as goal

abbrev pub invariant-loop-did : goal.invariant-loop-did
invariant-loop-did l = received_on (drop l.did-index l.delta) ≡ received_on l.fn.delta
