-- Definitions of mq_sync, passed on to the crates above.
pub use Rattle.mq_sender.specs.from_sync.SettleVariants as SettleVariants
pub use Rattle.mq_sender.specs.from_sync.Settlement as Settlement
pub use Rattle.mq_sender.specs.from_sync.Units as Units
pub use Rattle.mq_sender.specs.from_sync.{InDoubt, ReceiverData, SenderData, Settle, Stock, Unit}
