-- Definitions of mq_law_run, passed on to the crates above.
pub use Rattle.mq_law_run.specs.Run as Run
