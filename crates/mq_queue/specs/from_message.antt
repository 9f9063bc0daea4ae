-- Definitions of mq_message, passed on to the crates above.
pub use Rattle.mq_message.specs.declared.message.Dest.{Dest}
pub use Rattle.mq_message.specs.declared.message.Ident.{Ident}
pub use Rattle.mq_message.specs.declared.message.Md.{Md}
pub use Rattle.mq_message.specs.declared.message.Message.{Message}
pub use Rattle.mq_message.specs.declared.place.Holder.TheVariants as HolderVariants
pub use Rattle.mq_message.specs.declared.place.Holder.{Holder}
pub use Rattle.mq_message.specs.declared.place.Place.{Place}
pub use Rattle.mq_message.specs.declared.place.Want.{Want}
