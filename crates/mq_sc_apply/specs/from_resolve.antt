-- Definitions of mq_resolve, passed on to the crates above.
pub use Rattle.mq_calls.specs.from_resolve.PathStepVariants as PathStepVariants
pub use Rattle.mq_calls.specs.from_resolve.Resolved as Resolved
pub use Rattle.mq_calls.specs.from_resolve.RouteEndVariants as RouteEndVariants
