-- Definitions of mq_queue, passed on to the crates above.
pub use Rattle.mq_calls.specs.from_queue.Rows as Rows
pub use Rattle.mq_calls.specs.from_queue.{Row}
