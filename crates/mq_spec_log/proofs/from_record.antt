-- Laws of mq_record, passed on to the crates above.
pub use Rattle.mq_record.proofs.BodyLaws as BodyLaws
pub use Rattle.mq_record.proofs.KindLaws as KindLaws
