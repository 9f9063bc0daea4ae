-- Definitions of mq_objects, passed on to the crates above.
pub use Rattle.mq_calls.specs.from_objects.Attributes as Attributes
pub use Rattle.mq_calls.specs.from_objects.Changed as Changed
pub use Rattle.mq_calls.specs.from_objects.ChannelKindVariants as ChannelKindVariants
pub use Rattle.mq_calls.specs.from_objects.ChannelTypeVariants as ChannelTypeVariants
pub use Rattle.mq_calls.specs.from_objects.CommandVariants as CommandVariants
pub use Rattle.mq_calls.specs.from_objects.Defaults as Defaults
pub use Rattle.mq_calls.specs.from_objects.KeywordVariants as KeywordVariants
pub use Rattle.mq_calls.specs.from_objects.Names as Names
pub use Rattle.mq_calls.specs.from_objects.ObjectChangeVariants as ObjectChangeVariants
pub use Rattle.mq_calls.specs.from_objects.ObjectVariants as ObjectVariants
pub use Rattle.mq_calls.specs.from_objects.SettingVariants as SettingVariants
pub use Rattle.mq_calls.specs.from_objects.Settings as Settings
pub use Rattle.mq_calls.specs.from_objects.SubjectVariants as SubjectVariants
pub use Rattle.mq_calls.specs.from_objects.SubjectsVariants as SubjectsVariants
pub use Rattle.mq_calls.specs.from_objects.TriggerTypeVariants as TriggerTypeVariants
pub use Rattle.mq_calls.specs.from_objects.UsageVariants as UsageVariants
pub use Rattle.mq_calls.specs.from_objects.{Alter, Define, Delete, Display, Keyword, Setting}
