-- Definitions of mq_story, passed on to the crates above.
pub use Rattle.mq_story.specs.Spots as Spots
