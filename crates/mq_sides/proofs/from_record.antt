-- Laws of mq_record, passed on to the crates above.
pub use Rattle.mq_unit.proofs.from_record.SizeLaws as SizeLaws
