-- Definitions of mq_restart, passed on to the crates above.
pub use Rattle.mq_events.specs.from_restart.{LogRead}
