-- Definitions of mq_spec_manager, passed on to the crates above.
pub use Rattle.mq_spec_manager.specs.Agents as Agents
pub use Rattle.mq_spec_manager.specs.Commands as Commands
pub use Rattle.mq_spec_manager.specs.Get as Get
pub use Rattle.mq_spec_manager.specs.Handles as Handles
pub use Rattle.mq_spec_manager.specs.Put as Put
pub use Rattle.mq_spec_manager.specs.Stops as Stops
pub use Rattle.mq_spec_manager.specs.Triggers as Triggers
pub use Rattle.mq_spec_manager.specs.Units as Units
