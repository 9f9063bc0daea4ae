use Rattle.std.proofs.Common.{◌≡◌, ◌++◌, drop}
use Rattle.mq_net_stands.specs.Stands.{ledger_text}
use Rattle.mq_net_stands.proofs.stands.put_ledger.Given as goal

abbrev pub invariant-loop-at : goal.invariant-loop-at
invariant-loop-at l = l.out ++ ledger_text (drop l.at l.managers) (drop l.at l.places) ≡ l.fn.out ++ ledger_text l.fn.managers l.fn.places
