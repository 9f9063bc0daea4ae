-- Definitions of mq_agents, passed on to the crates above.
pub use Rattle.mq_agents.specs.Ends as Ends
pub use Rattle.mq_agents.specs.Releasing as Releasing
pub use Rattle.mq_agents.specs.Removing as Removing
pub use Rattle.mq_agents.specs.Written as Written
pub use Rattle.mq_agents.specs.declared.hardening.Unwritten.TheVariants as UnwrittenVariants
pub use Rattle.mq_agents.specs.declared.hardening.Unwritten.{Unwritten}
