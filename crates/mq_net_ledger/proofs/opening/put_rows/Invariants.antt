use Rattle.std.proofs.Common.{◌≡◌, ◌+◌, ◌++◌, drop}
use Rattle.mq_spec_network.specs.Standing.{opening_managers}
use Rattle.mq_net_ledger.specs.Opened.{opened_rows}
use Rattle.mq_net_ledger.proofs.opening.put_rows.Given as goal

abbrev pub invariant-rows : goal.invariant-rows
invariant-rows l = l.out ++ opened_rows l.scenario (opening_managers l.scenario l.histories) (l.at + 1) l.history l.n (drop l.n l.rows) ≡ l.fn.out ++ opened_rows l.scenario (opening_managers l.scenario l.histories) (l.at + 1) l.history 0 l.fn.rows
