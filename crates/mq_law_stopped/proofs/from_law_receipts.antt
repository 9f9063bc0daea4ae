-- Laws of mq_law_receipts, passed on to the crates above.
pub use Rattle.mq_law_turns.proofs.from_law_receipts.Cabling as Cabling
pub use Rattle.mq_law_turns.proofs.from_law_receipts.Knowing as Knowing
pub use Rattle.mq_law_turns.proofs.from_law_receipts.Landing as Landing
