-- Definitions of mq_sync, passed on to the crates above.
pub use Rattle.mq_sync.specs.declared.data.End.TheVariants as EndVariants
pub use Rattle.mq_sync.specs.declared.data.End.{End}
pub use Rattle.mq_sync.specs.declared.data.InDoubt.{InDoubt}
pub use Rattle.mq_sync.specs.declared.unit.Unit.{Unit}
