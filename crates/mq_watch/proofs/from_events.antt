-- Laws of mq_events, passed on to the crates above.
pub use Rattle.mq_events.proofs.LastLaws as LastLaws
pub use Rattle.mq_events.proofs.MarkLaws as MarkLaws
pub use Rattle.mq_events.proofs.ReplayLaws as ReplayLaws
