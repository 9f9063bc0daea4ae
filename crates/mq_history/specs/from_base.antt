-- Definitions of mq_base, passed on to the crates above.
pub use Rattle.mq_calls.specs.from_base.Members as Members
pub use Rattle.mq_calls.specs.from_base.Name as Name
