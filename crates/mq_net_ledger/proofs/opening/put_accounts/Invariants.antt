use Rattle.std.proofs.Common.{◌≡◌, ◌++◌, drop}
use Rattle.mq_spec_network.specs.Standing.{opening_managers}
use Rattle.mq_net_ledger.specs.Opened.{opened_places}
use Rattle.mq_net_ledger.proofs.opening.put_accounts.Given as goal

abbrev pub invariant-managers : goal.invariant-managers
invariant-managers l = l.out ++ opened_places l.scenario (opening_managers l.scenario l.histories) l.at (drop l.at l.histories) ≡ l.fn.out ++ opened_places l.scenario (opening_managers l.scenario l.histories) 0 l.fn.histories
