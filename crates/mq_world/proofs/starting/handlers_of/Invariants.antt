use Rattle.std.proofs.Common.{◌≡◌, ◌++◌, drop}
use Rattle.std.specs.Prelude.{map}
use Rattle.mq_history.specs.declared.scenario.RulesPart.{RulesPart}
use Rattle.mq_world.proofs.starting.handlers_of.Given as goal

abbrev pub invariant-loop-part : goal.invariant-loop-part
invariant-loop-part l = l.handlers ++ map (λ (r : RulesPart). r.manager) (drop l.part-index l.rules) ≡ map (λ (r : RulesPart). r.manager) l.rules
