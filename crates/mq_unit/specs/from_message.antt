-- Definitions of mq_message, passed on to the crates above.
pub use Rattle.mq_record.specs.from_message.{Ident}
