-- Laws of mq_law_events, passed on to the crates above.
pub use Rattle.mq_law_batches.proofs.from_law_events.Stepping as Stepping
pub use Rattle.mq_law_batches.proofs.from_law_events.Taking as Taking
pub use Rattle.mq_law_batches.proofs.from_law_events.Telling as Telling
