-- Laws of mq_receive, passed on to the crates above.
pub use Rattle.mq_receive.proofs.LeadLaws as LeadLaws
pub use Rattle.mq_receive.proofs.PlanLaws as PlanLaws
