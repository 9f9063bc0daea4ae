-- Definitions of mq_law_seen, passed on to the crates above.
pub use Rattle.mq_law_seen.specs.Given as Given
pub use Rattle.mq_law_seen.specs.Opening as Opening
pub use Rattle.mq_law_seen.specs.Seen as Seen
