use Rattle.std.proofs.Common.{◌≡◌, ◌+◌, drop}
use Rattle.mq_net_report.specs.Steps.{turns_in}
use Rattle.mq_net_report.proofs.lines.turns_in.Given as goal

abbrev pub invariant-counting : goal.invariant-counting
invariant-counting l = l.turns + turns_in l.step (drop l.history-index l.histories) ≡ turns_in l.step l.fn.histories
