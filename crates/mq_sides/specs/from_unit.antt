-- Definitions of mq_unit, passed on to the crates above.
pub use Rattle.mq_unit.specs.Forced as Forced
pub use Rattle.mq_unit.specs.Told as Told
