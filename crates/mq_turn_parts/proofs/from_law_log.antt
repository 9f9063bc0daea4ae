-- Laws of mq_law_log, passed on to the crates above.
pub use Rattle.mq_events.proofs.from_law_log.Bridge as Bridge
