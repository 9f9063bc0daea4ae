-- Definitions of mq_base, passed on to the crates above.
pub use Rattle.mq_message.specs.from_base.Name as Name
pub use Rattle.mq_message.specs.from_base.{NameFault}
