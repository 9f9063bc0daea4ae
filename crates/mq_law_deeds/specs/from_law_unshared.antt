-- Definitions of mq_law_unshared, passed on to the crates above.
pub use Rattle.mq_law_unshared.specs.Unshared as Unshared
