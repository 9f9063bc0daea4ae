-- Definitions of mq_law_seized, passed on to the crates above.
pub use Rattle.mq_law_seized.specs.Each as Each
