use Rattle.std.proofs.Common.{◌≡◌, ◌++◌, take, map}
use Rattle.mq_net_ledger.specs.Opened.{opened_user}
use Rattle.mq_net_ledger.proofs.opening.put_users.Given as goal

abbrev pub invariant-managers : goal.invariant-managers
invariant-managers l = l.out ≡ l.fn.out ++ map opened_user (take l.history-index l.histories)
