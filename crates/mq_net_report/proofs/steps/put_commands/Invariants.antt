use Rattle.std.proofs.Common.{◌≡◌, ◌++◌, take}
use Rattle.std.specs.List.{flat_map}
use Rattle.mq_net_report.specs.Steps.{command_if}
use Rattle.mq_net_report.proofs.steps.put_commands.Given as goal

abbrev pub invariant-loop-entry : goal.invariant-loop-entry
invariant-loop-entry l = l.out ≡ l.fn.out ++ flat_map command_if (take l.entry-index l.entries)
