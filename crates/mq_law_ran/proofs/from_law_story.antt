-- Laws of mq_law_story, passed on to the crates above.
pub use Rattle.mq_law_run.proofs.from_law_story.Weaving as Weaving
