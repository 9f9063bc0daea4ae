-- Definitions of mq_restart, passed on to the crates above.
pub use Rattle.mq_restart.specs.Begun as Begun
pub use Rattle.mq_restart.specs.Returned as Returned
pub use Rattle.mq_restart.specs.Stands as Stands
pub use Rattle.mq_restart.specs.declared.reading.LogRead.TheVariants as LogReadVariants
pub use Rattle.mq_restart.specs.declared.reading.LogRead.{LogRead}
pub use Rattle.mq_restart.specs.declared.reading.Unreturned.{Unreturned}
