use Rattle.std.proofs.Common.{◌≡◌, ◌+◌, ◌++◌, take, drop}
use Rattle.mq_net_report.specs.Steps.{starts_in}
use Rattle.mq_net_report.proofs.starts.starts_in.Given as goal

abbrev pub invariant-starting : goal.invariant-starting
invariant-starting l = l.starts + starts_in l.scenario l.monitor l.manager (l.before ++ take l.at l.entries) (drop l.at l.entries) ≡ starts_in l.scenario l.monitor l.manager l.before l.entries
