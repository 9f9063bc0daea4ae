-- Laws of mq_law_image, passed on to the crates above.
pub use Rattle.mq_law_image.proofs.Logged as Logged
pub use Rattle.mq_law_image.proofs.Records as Records
pub use Rattle.mq_law_image.proofs.Recovered as Recovered
pub use Rattle.mq_law_image.proofs.Starting as Starting
pub use Rattle.mq_law_image.proofs.Telling as Telling
