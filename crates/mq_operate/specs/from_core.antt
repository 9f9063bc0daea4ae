-- Definitions of mq_core, passed on to the crates above.
pub use Rattle.mq_core.specs.Values as Values
