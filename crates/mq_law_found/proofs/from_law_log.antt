-- Laws of mq_law_log, passed on to the crates above.
pub use Rattle.mq_law_log.proofs.Hardenings as Hardenings
pub use Rattle.mq_law_log.proofs.Landings as Landings
pub use Rattle.mq_law_log.proofs.Steady as Steady
pub use Rattle.mq_law_log.proofs.Stops as Stops
