use Rattle.std.proofs.Common.{◌≡◌, ◌++◌, take}
use Rattle.std.specs.List.{flat_map}
use Rattle.mq_net_ledger.specs.Arrivals.{arrivals_of}
use Rattle.mq_net_ledger.proofs.arriving.list_arrivals.Given as goal

abbrev pub invariant-listing : goal.invariant-listing
invariant-listing l = l.out ≡ l.fn.out ++ flat_map (arrivals_of l.delta l.books) (take l.message-index l.messages)
