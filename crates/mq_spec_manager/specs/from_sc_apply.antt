-- Definitions of mq_sc_apply, passed on to the crates above.
pub use Rattle.mq_sc_apply.specs.Commands as Commands
pub use Rattle.mq_sc_apply.specs.Displayed as Displayed
pub use Rattle.mq_sc_apply.specs.Planned as Planned
pub use Rattle.mq_sc_apply.specs.Uses as Uses
pub use Rattle.mq_sc_apply.specs.declared.answers.Plan.TheVariants as PlanVariants
pub use Rattle.mq_sc_apply.specs.declared.answers.Plan.{Plan}
pub use Rattle.mq_sc_apply.specs.declared.answers.Planned.{Planned as ThePlanned}
