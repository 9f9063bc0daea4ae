-- Definitions of mq_core, passed on to the crates above.
pub use Rattle.mq_core.specs.Counting as Counting
pub use Rattle.mq_core.specs.Forced as Forced
pub use Rattle.mq_core.specs.Placing as Placing
pub use Rattle.mq_core.specs.Ties as Ties
pub use Rattle.mq_core.specs.Values as Values
pub use Rattle.mq_core.specs.Views as Views
pub use Rattle.mq_core.specs.Writes as Writes
pub use Rattle.mq_core.specs.declared.parts.StoppedWrite.TheVariants as StoppedWriteVariants
