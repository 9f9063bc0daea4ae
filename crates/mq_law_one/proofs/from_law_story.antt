-- Laws of mq_law_story, passed on to the crates above.
pub use Rattle.mq_law_story.proofs.Agreeing as Agreeing
pub use Rattle.mq_law_story.proofs.Beginning as Beginning
pub use Rattle.mq_law_story.proofs.Promising as Promising
pub use Rattle.mq_law_story.proofs.Weaving as Weaving
