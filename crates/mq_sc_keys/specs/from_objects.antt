-- Definitions of mq_objects, passed on to the crates above.
pub use Rattle.mq_objects.specs.declared.command.Command.TheVariants as CommandVariants
pub use Rattle.mq_objects.specs.declared.command.Subject.TheVariants as SubjectVariants
pub use Rattle.mq_objects.specs.declared.command.Subject.{Subject}
pub use Rattle.mq_objects.specs.declared.command.Subjects.TheVariants as SubjectsVariants
pub use Rattle.mq_objects.specs.declared.command.Subjects.{Subjects}
pub use Rattle.mq_objects.specs.declared.setting.ChannelType.TheVariants as ChannelTypeVariants
pub use Rattle.mq_objects.specs.declared.setting.ChannelType.{ChannelType}
pub use Rattle.mq_objects.specs.declared.setting.Keyword.{Keyword}
pub use Rattle.mq_objects.specs.declared.setting.Setting.{Setting}
