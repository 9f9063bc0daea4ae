use Rattle.std.proofs.Common.{◌≡◌, ◌++◌, drop}
use Rattle.mq_net_report.specs.Steps.{scripts_text}
use Rattle.mq_net_report.proofs.lines.put_scripts.Given as goal

abbrev pub invariant-scripts : goal.invariant-scripts
invariant-scripts l = l.out ++ scripts_text l.scenario l.histories l.at (drop l.at l.scripts) ≡ l.fn.out ++ scripts_text l.scenario l.histories 0 l.fn.scripts
