-- Laws of mq_get, passed on to the crates above.
pub use Rattle.mq_agents.proofs.from_get.PathLaws as PathLaws
