-- Definitions of mq_message, passed on to the crates above.
pub use Rattle.mq_message.specs.Descriptor as Descriptor
pub use Rattle.mq_message.specs.Layout as Layout
pub use Rattle.mq_message.specs.declared.message.Md.{Md}
pub use Rattle.mq_message.specs.declared.place.Holder.TheVariants as HolderVariants
