-- Definitions of mq_queue, passed on to the crates above.
pub use Rattle.mq_queue.specs.Lanes as Lanes
pub use Rattle.mq_queue.specs.Queues as Queues
