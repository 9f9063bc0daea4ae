-- Definitions of mq_law_receipts, passed on to the crates above.
pub use Rattle.mq_law_turns.specs.from_law_receipts.Receipts as Receipts
