-- Definitions of mq_resolve, passed on to the crates above.
pub use Rattle.mq_history.specs.from_resolve.Resolved as Resolved
pub use Rattle.mq_history.specs.from_resolve.{Route}
