-- Laws of mq_law_seen, passed on to the crates above.
pub use Rattle.mq_law_story.proofs.from_law_seen.Images as Images
