-- Laws of mq_law_events, passed on to the crates above.
pub use Rattle.mq_law_events.proofs.Getting as Getting
pub use Rattle.mq_law_events.proofs.Stepping as Stepping
pub use Rattle.mq_law_events.proofs.Taking as Taking
pub use Rattle.mq_law_events.proofs.Telling as Telling
