use Rattle.std.proofs.Common.{◌≡◌, ◌+◌, ◌++◌, take, map}
use Rattle.mq_spec_network.specs.Standing.{opening_managers}
use Rattle.mq_net_ledger.specs.Opened.{opened_shelf}
use Rattle.mq_net_ledger.proofs.opening.put_shelves.Given as goal

abbrev pub invariant-shelves : goal.invariant-shelves
invariant-shelves l = l.out ≡ l.fn.out ++ map (opened_shelf l.scenario (opening_managers l.scenario l.histories) (l.at + 1) l.history) (take l.one-index l.shelves)
