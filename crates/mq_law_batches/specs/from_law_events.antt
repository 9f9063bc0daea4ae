-- Definitions of mq_law_events, passed on to the crates above.
pub use Rattle.mq_law_events.specs.Local as Local
pub use Rattle.mq_law_events.specs.Posting as Posting
pub use Rattle.mq_law_events.specs.Tied as Tied
