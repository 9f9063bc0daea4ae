-- Laws of mq_unit, passed on to the crates above.
pub use Rattle.mq_sides.proofs.from_unit.UnitLaws as UnitLaws
