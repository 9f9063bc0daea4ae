-- Definitions of mq_agents, passed on to the crates above.
pub use Rattle.mq_manager.specs.from_agents.Ends as Ends
pub use Rattle.mq_manager.specs.from_agents.Releasing as Releasing
pub use Rattle.mq_manager.specs.from_agents.Removing as Removing
