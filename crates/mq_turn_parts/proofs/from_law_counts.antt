-- Laws of mq_law_counts, passed on to the crates above.
pub use Rattle.mq_events.proofs.from_law_counts.Climbing as Climbing
