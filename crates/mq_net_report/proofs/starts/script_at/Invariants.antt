use Rattle.std.proofs.Common.{◌≡◌, drop}
use Rattle.mq_net_report.specs.Steps.{script_at}
use Rattle.mq_net_report.proofs.starts.script_at.Given as goal

abbrev pub invariant-loop-at : goal.invariant-loop-at
invariant-loop-at l = script_at l.manager l.label l.at (drop l.at l.scripts) ≡ script_at l.manager l.label 0 l.fn.scripts
