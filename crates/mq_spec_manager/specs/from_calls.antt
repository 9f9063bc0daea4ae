-- Definitions of mq_calls, passed on to the crates above.
pub use Rattle.mq_sc_apply.specs.from_calls.Words as Words
