-- Definitions of mq_rules, passed on to the crates above.
pub use Rattle.mq_rules.specs.Choice as Choice
pub use Rattle.mq_rules.specs.declared.rule.Action.TheVariants as ActionVariants
pub use Rattle.mq_rules.specs.declared.rule.Action.{Action}
pub use Rattle.mq_rules.specs.declared.rule.Condition.TheVariants as ConditionVariants
pub use Rattle.mq_rules.specs.declared.rule.Forward.{Forward}
pub use Rattle.mq_rules.specs.declared.rule.NumberField.TheVariants as NumberFieldVariants
pub use Rattle.mq_rules.specs.declared.rule.Rule.{Rule}
pub use Rattle.mq_rules.specs.declared.rule.Table.{Table}
pub use Rattle.mq_rules.specs.declared.rule.Target.TheVariants as TargetVariants
pub use Rattle.mq_rules.specs.declared.rule.Wait.TheVariants as WaitVariants
