-- The queue whose trigger is served next (mq_steer).
pub use Rattle.mq_steer.specs.Due.{name_if, due_where, next_due}
