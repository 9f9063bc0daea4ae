-- Definitions of mq_opening, passed on to the crates above.
pub use Rattle.mq_opening.specs.Opened as Opened
