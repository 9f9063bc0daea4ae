-- Laws of mq_manager, passed on to the crates above.
pub use Rattle.mq_events.proofs.from_manager.CallLaws as CallLaws
