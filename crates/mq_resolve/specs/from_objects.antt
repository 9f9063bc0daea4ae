-- Definitions of mq_objects, passed on to the crates above.
pub use Rattle.mq_objects.specs.Attributes as Attributes
pub use Rattle.mq_objects.specs.Changed as Changed
pub use Rattle.mq_objects.specs.Defaults as Defaults
pub use Rattle.mq_objects.specs.Held as Held
pub use Rattle.mq_objects.specs.Names as Names
pub use Rattle.mq_objects.specs.Settings as Settings
pub use Rattle.mq_objects.specs.Slots as Slots
pub use Rattle.mq_objects.specs.Written as Written
pub use Rattle.mq_objects.specs.declared.change.ObjectChange.TheVariants as ObjectChangeVariants
pub use Rattle.mq_objects.specs.declared.change.ObjectChange.{ObjectChange}
pub use Rattle.mq_objects.specs.declared.command.Alter.{Alter}
pub use Rattle.mq_objects.specs.declared.command.AlterManager.{AlterManager}
pub use Rattle.mq_objects.specs.declared.command.Command.TheVariants as CommandVariants
pub use Rattle.mq_objects.specs.declared.command.Command.{Command}
pub use Rattle.mq_objects.specs.declared.command.Define.{Define}
pub use Rattle.mq_objects.specs.declared.command.Delete.{Delete}
pub use Rattle.mq_objects.specs.declared.command.Display.{Display}
pub use Rattle.mq_objects.specs.declared.command.Subject.TheVariants as SubjectVariants
pub use Rattle.mq_objects.specs.declared.command.Subject.{Subject}
pub use Rattle.mq_objects.specs.declared.command.Subjects.TheVariants as SubjectsVariants
pub use Rattle.mq_objects.specs.declared.command.Subjects.{Subjects}
pub use Rattle.mq_objects.specs.declared.key.NameSpace.TheVariants as NameSpaceVariants
pub use Rattle.mq_objects.specs.declared.key.NameSpace.{NameSpace}
pub use Rattle.mq_objects.specs.declared.object.Channel.{Channel}
pub use Rattle.mq_objects.specs.declared.object.ChannelKind.TheVariants as ChannelKindVariants
pub use Rattle.mq_objects.specs.declared.object.ChannelKind.{ChannelKind}
pub use Rattle.mq_objects.specs.declared.object.Definitions.{Definitions}
pub use Rattle.mq_objects.specs.declared.object.Delivery.{Delivery}
pub use Rattle.mq_objects.specs.declared.object.LocalQueue.{LocalQueue}
pub use Rattle.mq_objects.specs.declared.object.ManagerAttributes.{ManagerAttributes}
pub use Rattle.mq_objects.specs.declared.object.Object.TheVariants as ObjectVariants
pub use Rattle.mq_objects.specs.declared.object.Object.{Object}
pub use Rattle.mq_objects.specs.declared.object.Process.{Process}
pub use Rattle.mq_objects.specs.declared.object.TriggerType.TheVariants as TriggerTypeVariants
pub use Rattle.mq_objects.specs.declared.object.TriggerType.{TriggerType}
pub use Rattle.mq_objects.specs.declared.object.Usage.TheVariants as UsageVariants
pub use Rattle.mq_objects.specs.declared.object.Usage.{Usage}
pub use Rattle.mq_objects.specs.declared.setting.ChannelType.TheVariants as ChannelTypeVariants
pub use Rattle.mq_objects.specs.declared.setting.Keyword.TheVariants as KeywordVariants
pub use Rattle.mq_objects.specs.declared.setting.Keyword.{Keyword}
pub use Rattle.mq_objects.specs.declared.setting.Setting.TheVariants as SettingVariants
pub use Rattle.mq_objects.specs.declared.setting.Setting.{Setting}
pub use Rattle.mq_objects.specs.declared.text.Style.TheVariants as StyleVariants
