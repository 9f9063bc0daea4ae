-- Laws of mq_record, passed on to the crates above.
pub use Rattle.mq_spec_log.proofs.from_record.KindLaws as KindLaws
