use Rattle.std.proofs.Common.{◌≡◌, ◌++◌, take}
use Rattle.std.specs.List.{flat_map}
use Rattle.mq_net_report.specs.Steps.{label_text}
use Rattle.mq_net_report.proofs.lines.put_labels.Given as goal

abbrev pub invariant-loop-script : goal.invariant-loop-script
invariant-loop-script l = l.out ≡ l.fn.out ++ flat_map (label_text l.scenario) (take l.script-index l.scripts)
