-- Definitions of mq_law_keys, passed on to the crates above.
pub use Rattle.mq_law_keys.specs.Keys as Keys
