-- Definitions of mq_sc_apply, passed on to the crates above.
pub use Rattle.mq_sc_apply.specs.Planned as Planned
