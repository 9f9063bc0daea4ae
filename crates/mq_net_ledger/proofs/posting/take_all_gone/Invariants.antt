use Rattle.std.proofs.Common.{◌≡◌, drop}
use Rattle.mq_spec_network.specs.Ledger.{take_all_gone}
use Rattle.mq_net_ledger.proofs.posting.take_all_gone.Given as goal

abbrev pub invariant-loop-did : goal.invariant-loop-did
invariant-loop-did l = take_all_gone l.m (drop l.did-index l.delta) l.books ≡ take_all_gone l.m l.fn.delta l.fn.books
