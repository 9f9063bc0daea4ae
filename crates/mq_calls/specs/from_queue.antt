-- Definitions of mq_queue, passed on to the crates above.
pub use Rattle.mq_queue.specs.Rows as Rows
pub use Rattle.mq_queue.specs.declared.row.Row.{Row}
