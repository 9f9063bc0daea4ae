-- Definitions of mq_law_batches, passed on to the crates above.
pub use Rattle.mq_law_turns.specs.from_law_batches.Releases as Releases
