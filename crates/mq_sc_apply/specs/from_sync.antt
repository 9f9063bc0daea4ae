-- Definitions of mq_sync, passed on to the crates above.
pub use Rattle.mq_calls.specs.from_sync.EndVariants as EndVariants
