-- Definitions of mq_spec_manager, passed on to the crates above.
pub use Rattle.mq_spec_manager.specs.Agents as Agents
pub use Rattle.mq_spec_manager.specs.Put as Put
pub use Rattle.mq_spec_manager.specs.Stops as Stops
