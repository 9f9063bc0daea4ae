-- Laws of mq_core, passed on to the crates above.
pub use Rattle.mq_core.proofs.PlaceLaws as PlaceLaws
pub use Rattle.mq_core.proofs.ReadLaws as ReadLaws
