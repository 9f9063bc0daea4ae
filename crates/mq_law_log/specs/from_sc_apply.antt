-- Definitions of mq_sc_apply, passed on to the crates above.
pub use Rattle.mq_spec_manager.specs.from_sc_apply.Commands as Commands
pub use Rattle.mq_spec_manager.specs.from_sc_apply.Displayed as Displayed
pub use Rattle.mq_spec_manager.specs.from_sc_apply.PlanVariants as PlanVariants
pub use Rattle.mq_spec_manager.specs.from_sc_apply.Planned as Planned
pub use Rattle.mq_spec_manager.specs.from_sc_apply.Uses as Uses
pub use Rattle.mq_spec_manager.specs.from_sc_apply.{Plan, ThePlanned}
