use Rattle.std.proofs.Common.{◌≡◌, drop}
use Rattle.mq_spec_network.specs.Ledger.{first_got}
use Rattle.mq_net_ledger.proofs.answers.first_got.Given as goal

abbrev pub invariant-loop-did : goal.invariant-loop-did
invariant-loop-did l = first_got (drop l.did-index l.delta) ≡ first_got l.fn.delta
