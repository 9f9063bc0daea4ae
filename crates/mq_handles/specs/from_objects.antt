-- Definitions of mq_objects, passed on to the crates above.
pub use Rattle.mq_calls.specs.from_objects.Names as Names
pub use Rattle.mq_calls.specs.from_objects.TriggerTypeVariants as TriggerTypeVariants
