-- Definitions of mq_agents, passed on to the crates above.
pub use Rattle.mq_moves.specs.from_agents.Ends as Ends
pub use Rattle.mq_moves.specs.from_agents.Releasing as Releasing
pub use Rattle.mq_moves.specs.from_agents.Removing as Removing
