-- Definitions of mq_heads, passed on to the crates above.
pub use Rattle.mq_heads.specs.Stamps as Stamps
