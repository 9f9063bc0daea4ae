-- Definitions of mq_spec_manager, passed on to the crates above.
pub use Rattle.mq_unit.specs.from_spec_manager.Heads as Heads
pub use Rattle.mq_unit.specs.from_spec_manager.Triggers as Triggers
