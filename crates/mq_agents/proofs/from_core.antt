-- Laws of mq_core, passed on to the crates above.
pub use Rattle.mq_core.proofs.ForceLaws as ForceLaws
pub use Rattle.mq_core.proofs.MeetLaws as MeetLaws
pub use Rattle.mq_core.proofs.PlaceLaws as PlaceLaws
pub use Rattle.mq_core.proofs.PutLaws as PutLaws
pub use Rattle.mq_core.proofs.WriteLaws as WriteLaws
