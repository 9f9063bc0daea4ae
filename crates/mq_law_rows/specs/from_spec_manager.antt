-- Definitions of mq_spec_manager, passed on to the crates above.
pub use Rattle.mq_law_manager.specs.from_spec_manager.Agents as Agents
pub use Rattle.mq_law_manager.specs.from_spec_manager.Put as Put
pub use Rattle.mq_law_manager.specs.from_spec_manager.Stops as Stops
