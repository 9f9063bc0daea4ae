-- Definitions of mq_law_seen, passed on to the crates above.
pub use Rattle.mq_law_story.specs.from_law_seen.Seen as Seen
