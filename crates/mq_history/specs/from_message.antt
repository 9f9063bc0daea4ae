-- Definitions of mq_message, passed on to the crates above.
pub use Rattle.mq_cable.specs.from_message.HolderVariants as HolderVariants
pub use Rattle.mq_cable.specs.from_message.Layout as Layout
pub use Rattle.mq_cable.specs.from_message.{Dest, Holder, Ident, Md, Message}
