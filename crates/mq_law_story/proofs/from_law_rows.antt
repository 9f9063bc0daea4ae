-- Laws of mq_law_rows, passed on to the crates above.
pub use Rattle.mq_law_seen.proofs.from_law_rows.Lists as Lists
pub use Rattle.mq_law_seen.proofs.from_law_rows.Ordering as Ordering
