-- Laws of mq_get, passed on to the crates above.
pub use Rattle.mq_get.proofs.PathLaws as PathLaws
