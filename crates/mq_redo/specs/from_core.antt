-- Definitions of mq_core, passed on to the crates above.
pub use Rattle.mq_core.specs.Ties as Ties
pub use Rattle.mq_core.specs.Values as Values
pub use Rattle.mq_core.specs.Views as Views
pub use Rattle.mq_core.specs.declared.parts.ChannelEnds.{ChannelEnds}
pub use Rattle.mq_core.specs.declared.parts.Mode.TheVariants as ModeVariants
pub use Rattle.mq_core.specs.declared.parts.Mode.{Mode}
pub use Rattle.mq_core.specs.declared.parts.ReadLog.{ReadLog}
pub use Rattle.mq_core.specs.declared.parts.StoppedWrite.{StoppedWrite}
