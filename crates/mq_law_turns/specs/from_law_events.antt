-- Definitions of mq_law_events, passed on to the crates above.
pub use Rattle.mq_law_batches.specs.from_law_events.Local as Local
pub use Rattle.mq_law_batches.specs.from_law_events.Tied as Tied
