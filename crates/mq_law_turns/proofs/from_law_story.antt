-- Laws of mq_law_story, passed on to the crates above.
pub use Rattle.mq_law_story.proofs.Tying as Tying
