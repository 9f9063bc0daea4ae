use Rattle.std.proofs.Common.{◌≡◌}
use Rattle.mq_soak.specs.Soak.{steps_to}
use Rattle.mq_soak.proofs.steps.steps.Given as goal

abbrev pub invariant-loop-done : goal.invariant-loop-done
invariant-loop-done l = l.out ≡ steps_to l.done
