-- Laws of mq_events, passed on to the crates above.
pub use Rattle.mq_events.proofs.CallLaws as CallLaws
pub use Rattle.mq_events.proofs.CountLaws as CountLaws
pub use Rattle.mq_events.proofs.EntryLaws as EntryLaws
pub use Rattle.mq_events.proofs.KeepLaws as KeepLaws
pub use Rattle.mq_events.proofs.RiseLaws as RiseLaws
