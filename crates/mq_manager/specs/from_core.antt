-- Definitions of mq_core, passed on to the crates above.
pub use Rattle.mq_receive.specs.from_core.Ties as Ties
pub use Rattle.mq_receive.specs.from_core.Values as Values
pub use Rattle.mq_receive.specs.from_core.Views as Views
