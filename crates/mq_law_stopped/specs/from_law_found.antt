-- Definitions of mq_law_found, passed on to the crates above.
pub use Rattle.mq_law_found.specs.Finds as Finds
