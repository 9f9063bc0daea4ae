use Rattle.std.proofs.Common.{◌≡◌, drop}
use Rattle.mq_spec_network.specs.Ledger.{move_all}
use Rattle.mq_net_ledger.proofs.posting.move_all.Given as goal

abbrev pub invariant-loop-did : goal.invariant-loop-did
invariant-loop-did l = move_all l.m (drop l.did-index l.delta) l.books ≡ move_all l.m l.fn.delta l.fn.books
