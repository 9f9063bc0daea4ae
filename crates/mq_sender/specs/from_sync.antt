-- Definitions of mq_sync, passed on to the crates above.
pub use Rattle.mq_sync.specs.Settlement as Settlement
pub use Rattle.mq_sync.specs.Units as Units
pub use Rattle.mq_sync.specs.declared.data.Doubt.{Doubt}
pub use Rattle.mq_sync.specs.declared.data.End.TheVariants as EndVariants
pub use Rattle.mq_sync.specs.declared.data.InDoubt.{InDoubt}
pub use Rattle.mq_sync.specs.declared.data.ReceiverData.{ReceiverData}
pub use Rattle.mq_sync.specs.declared.data.SenderData.{SenderData}
pub use Rattle.mq_sync.specs.declared.data.Stock.{Stock}
pub use Rattle.mq_sync.specs.declared.unit.Settle.TheVariants as SettleVariants
pub use Rattle.mq_sync.specs.declared.unit.Settle.{Settle}
pub use Rattle.mq_sync.specs.declared.unit.Unit.{Unit}
