-- Laws of mq_law_counts, passed on to the crates above.
pub use Rattle.mq_law_counts.proofs.Climbing as Climbing
