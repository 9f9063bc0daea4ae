-- Definitions of mq_disk, passed on to the crates above.
pub use Rattle.mq_calls.specs.from_disk.StopVariants as StopVariants
pub use Rattle.mq_calls.specs.from_disk.{Stop}
