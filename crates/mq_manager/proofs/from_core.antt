-- Laws of mq_core, passed on to the crates above.
pub use Rattle.mq_receive.proofs.from_core.PlaceLaws as PlaceLaws
pub use Rattle.mq_receive.proofs.from_core.ReadLaws as ReadLaws
