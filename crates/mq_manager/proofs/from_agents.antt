-- Laws of mq_agents, passed on to the crates above.
pub use Rattle.mq_receive.proofs.from_agents.EndLaws as EndLaws
