-- Definitions of mq_disk, passed on to the crates above.
pub use Rattle.mq_disk.specs.declared.cutter.Stop.TheVariants as StopVariants
pub use Rattle.mq_disk.specs.declared.cutter.Stop.{Stop}
