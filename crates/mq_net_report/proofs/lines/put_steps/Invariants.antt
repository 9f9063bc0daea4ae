use Rattle.std.proofs.Common.{◌≡◌, ◌++◌, drop}
use Rattle.mq_net_report.specs.Steps.{steps_text}
use Rattle.mq_net_report.proofs.lines.put_steps.Given as goal

abbrev pub invariant-steps : goal.invariant-steps
invariant-steps l = l.out ++ steps_text l.scenario l.histories l.at (drop l.at l.steps) ≡ l.fn.out ++ steps_text l.scenario l.histories 0 l.fn.steps
