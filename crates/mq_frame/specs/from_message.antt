-- Definitions of mq_message, passed on to the crates above.
pub use Rattle.mq_message.specs.declared.message.Dest.{Dest}
pub use Rattle.mq_message.specs.declared.message.Message.{Message}
