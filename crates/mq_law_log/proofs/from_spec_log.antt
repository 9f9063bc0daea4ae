-- Laws of mq_spec_log, passed on to the crates above.
pub use Rattle.mq_spec_log.proofs.BodyLaws as BodyLaws
