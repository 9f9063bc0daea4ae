-- Definitions of mq_law_keys, passed on to the crates above.
pub use Rattle.mq_law_unshared.specs.from_law_keys.Keys as Keys
