-- Definitions of mq_split, passed on to the crates above.
pub use Rattle.mq_split.specs.Facing as Facing
