use Rattle.std.proofs.Common.{◌≡◌, ◌++◌, drop}
use Rattle.mq_net_report.specs.Steps.{lines_text}
use Rattle.mq_net_report.proofs.steps.put_lines.Given as goal

abbrev pub invariant-lines : goal.invariant-lines
invariant-lines l = l.out ++ lines_text l.script l.number (drop l.entry-index l.entries) ≡ l.fn.out ++ lines_text l.script 1 l.fn.entries
