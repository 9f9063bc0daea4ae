-- Definitions of mq_objects, passed on to the crates above.
pub use Rattle.mq_history.specs.from_objects.CommandVariants as CommandVariants
pub use Rattle.mq_history.specs.from_objects.Defaults as Defaults
pub use Rattle.mq_history.specs.from_objects.Names as Names
pub use Rattle.mq_history.specs.from_objects.SettingVariants as SettingVariants
pub use Rattle.mq_history.specs.from_objects.SubjectVariants as SubjectVariants
pub use Rattle.mq_history.specs.from_objects.TriggerTypeVariants as TriggerTypeVariants
pub use Rattle.mq_history.specs.from_objects.{LocalQueue, Object, Process}
