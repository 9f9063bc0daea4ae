-- Definitions of mq_law_one, passed on to the crates above.
pub use Rattle.mq_law_run.specs.from_law_one.Alone as Alone
