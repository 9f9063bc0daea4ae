-- Definitions of mq_restart, passed on to the crates above.
pub use Rattle.mq_restarts.specs.from_restart.Begun as Begun
pub use Rattle.mq_restarts.specs.from_restart.Returned as Returned
pub use Rattle.mq_restarts.specs.from_restart.{LogRead, Unreturned}
