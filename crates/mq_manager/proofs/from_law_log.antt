-- Laws of mq_law_log, passed on to the crates above.
pub use Rattle.mq_law_log.proofs.Bridge as Bridge
