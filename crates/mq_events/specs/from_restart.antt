-- Definitions of mq_restart, passed on to the crates above.
pub use Rattle.mq_manager.specs.from_restart.Returned as Returned
pub use Rattle.mq_manager.specs.from_restart.{LogRead, Unreturned}
