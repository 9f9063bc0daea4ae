-- Laws of mq_agents, passed on to the crates above.
pub use Rattle.mq_agents.proofs.EndLaws as EndLaws
pub use Rattle.mq_agents.proofs.RemoveLaws as RemoveLaws
pub use Rattle.mq_agents.proofs.WriteLaws as WriteLaws
