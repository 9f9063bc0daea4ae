-- Laws of mq_law_rows, passed on to the crates above.
pub use Rattle.mq_law_story.proofs.from_law_rows.Lists as Lists
