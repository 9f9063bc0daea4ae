-- Laws of mq_law_batches, passed on to the crates above.
pub use Rattle.mq_law_batches.proofs.Releasing as Releasing
pub use Rattle.mq_law_batches.proofs.Stopping as Stopping
pub use Rattle.mq_law_batches.proofs.Wording as Wording
