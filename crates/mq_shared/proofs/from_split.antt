-- Laws of mq_split, passed on to the crates above.
pub use Rattle.mq_split.proofs.FacingLaws as FacingLaws
pub use Rattle.mq_split.proofs.QuietLaws as QuietLaws
