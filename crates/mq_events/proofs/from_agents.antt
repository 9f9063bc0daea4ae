-- Laws of mq_agents, passed on to the crates above.
pub use Rattle.mq_manager.proofs.from_agents.EndLaws as EndLaws
