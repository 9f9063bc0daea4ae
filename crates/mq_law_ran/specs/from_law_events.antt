-- Definitions of mq_law_events, passed on to the crates above.
pub use Rattle.mq_law_run.specs.from_law_events.Tied as Tied
