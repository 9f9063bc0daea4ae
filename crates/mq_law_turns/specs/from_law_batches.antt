-- Definitions of mq_law_batches, passed on to the crates above.
pub use Rattle.mq_law_batches.specs.Releases as Releases
