-- Laws of mq_receive, passed on to the crates above.
pub use Rattle.mq_events.proofs.from_receive.LeadLaws as LeadLaws
pub use Rattle.mq_events.proofs.from_receive.PlanLaws as PlanLaws
