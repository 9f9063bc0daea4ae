-- Definitions of mq_opening, passed on to the crates above.
pub use Rattle.mq_world_begin.specs.from_opening.Opened as Opened
