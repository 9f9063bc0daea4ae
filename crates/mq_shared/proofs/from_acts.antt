-- Laws of mq_acts, passed on to the crates above.
pub use Rattle.mq_acts.proofs.OwnLaws as OwnLaws
pub use Rattle.mq_acts.proofs.ServeLaws as ServeLaws
