-- Laws of mq_law_found, passed on to the crates above.
pub use Rattle.mq_law_found.proofs.Finding as Finding
pub use Rattle.mq_law_found.proofs.Going as Going
