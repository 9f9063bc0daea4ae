use Rattle.std.proofs.Common.{◌≡◌, drop}
use Rattle.mq_net_report.specs.Steps.{first_refusal}
use Rattle.mq_net_report.proofs.steps.first_refusal.Given as goal

abbrev pub invariant-loop-entry : goal.invariant-loop-entry
invariant-loop-entry l = first_refusal l.monitor (drop l.entry-index l.entries) ≡ first_refusal l.monitor l.fn.entries
