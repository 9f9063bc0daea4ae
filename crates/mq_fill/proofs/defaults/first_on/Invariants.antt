use Rattle.std.specs.Prelude.{◌≡◌, drop}
use Rattle.mq_spec_manager.specs.Words.{first_on}
use Rattle.mq_fill.proofs.defaults.first_on.Given as goal

abbrev pub invariant-loop-step : goal.invariant-loop-step
invariant-loop-step l = first_on (drop l.step-index l.path) ≡ first_on l.fn.path
