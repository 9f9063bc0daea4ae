-- Laws of mq_law_scenario, passed on to the crates above.
pub use Rattle.mq_law_scenario.proofs.Either as Either
pub use Rattle.mq_law_scenario.proofs.Kept as Kept
