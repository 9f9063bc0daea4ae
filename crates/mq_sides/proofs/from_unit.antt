-- Laws of mq_unit, passed on to the crates above.
pub use Rattle.mq_unit.proofs.UnitLaws as UnitLaws
