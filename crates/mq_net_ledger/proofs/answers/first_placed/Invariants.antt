use Rattle.std.proofs.Common.{◌≡◌, drop}
use Rattle.mq_spec_network.specs.Ledger.{first_placed}
use Rattle.mq_net_ledger.proofs.answers.first_placed.Given as goal

abbrev pub invariant-loop-did : goal.invariant-loop-did
invariant-loop-did l = first_placed (drop l.did-index l.delta) ≡ first_placed l.fn.delta
