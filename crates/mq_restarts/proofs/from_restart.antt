-- Laws of mq_restart, passed on to the crates above.
pub use Rattle.mq_restart.proofs.StandLaws as StandLaws
