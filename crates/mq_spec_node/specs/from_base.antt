-- Definitions of mq_base, passed on to the crates above.
pub use Rattle.mq_history.specs.from_base.Members as Members
