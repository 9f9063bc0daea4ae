-- Laws of mq_law_receipts, passed on to the crates above.
pub use Rattle.mq_law_receipts.proofs.Cabling as Cabling
pub use Rattle.mq_law_receipts.proofs.Knowing as Knowing
pub use Rattle.mq_law_receipts.proofs.Landing as Landing
pub use Rattle.mq_law_receipts.proofs.Losing as Losing
pub use Rattle.mq_law_receipts.proofs.Receiving as Receiving
