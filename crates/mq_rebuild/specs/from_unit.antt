-- Definitions of mq_unit, passed on to the crates above.
pub use Rattle.mq_sides.specs.from_unit.Told as Told
