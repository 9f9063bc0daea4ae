-- Definitions of mq_redo, passed on to the crates above.
pub use Rattle.mq_redo.specs.Redone as Redone
