-- Laws of mq_law_batches, passed on to the crates above.
pub use Rattle.mq_law_turns.proofs.from_law_batches.Releasing as Releasing
pub use Rattle.mq_law_turns.proofs.from_law_batches.Stopping as Stopping
pub use Rattle.mq_law_turns.proofs.from_law_batches.Wording as Wording
