-- Definitions of mq_law_ran, passed on to the crates above.
pub use Rattle.mq_law_ran.specs.Runs as Runs
