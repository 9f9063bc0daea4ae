-- Definitions of mq_law_counts, passed on to the crates above.
pub use Rattle.mq_events.specs.from_law_counts.Counts as Counts
