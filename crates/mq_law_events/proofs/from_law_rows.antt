-- Laws of mq_law_rows, passed on to the crates above.
pub use Rattle.mq_law_seen.proofs.from_law_rows.Batches as Batches
pub use Rattle.mq_law_seen.proofs.from_law_rows.Holding as Holding
pub use Rattle.mq_law_seen.proofs.from_law_rows.Lists as Lists
pub use Rattle.mq_law_seen.proofs.from_law_rows.Owners as Owners
pub use Rattle.mq_law_seen.proofs.from_law_rows.Receiving as Receiving
pub use Rattle.mq_law_seen.proofs.from_law_rows.Settling as Settling
