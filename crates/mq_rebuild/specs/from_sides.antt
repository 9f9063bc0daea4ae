-- Definitions of mq_sides, passed on to the crates above.
pub use Rattle.mq_sides.specs.Bonds as Bonds
pub use Rattle.mq_sides.specs.Places as Places
