use Rattle.std.proofs.Common.{◌≡◌, drop}
use Rattle.mq_sc_apply.specs.Planned.{first_bad}
use Rattle.mq_sc_apply.proofs.plans.first_bad.Given as goal

abbrev pub invariant-loop-setting : goal.invariant-loop-setting
invariant-loop-setting l = first_bad l.kind (drop l.setting-index l.settings) ≡ first_bad l.kind l.settings
