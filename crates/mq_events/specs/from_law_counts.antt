-- Definitions of mq_law_counts, passed on to the crates above.
pub use Rattle.mq_law_counts.specs.Counts as Counts
