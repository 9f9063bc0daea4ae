-- Definitions of mq_spec_manager, passed on to the crates above.
pub use Rattle.mq_spec_manager.specs.Handles as Handles
pub use Rattle.mq_spec_manager.specs.Heads as Heads
pub use Rattle.mq_spec_manager.specs.Triggers as Triggers
