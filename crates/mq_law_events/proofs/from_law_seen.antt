-- Laws of mq_law_seen, passed on to the crates above.
pub use Rattle.mq_law_seen.proofs.Bridges as Bridges
pub use Rattle.mq_law_seen.proofs.Images as Images
pub use Rattle.mq_law_seen.proofs.Receipts as Receipts
