-- Commands that leave MAXMSGL of the manager within what a record keeps, as the reader of commands gives them.
use Rattle.std.specs.Prelude.{Bool, true, nat_le}
use Rattle.std.specs.List.{list_all}
use Rattle.mq_objects.specs.declared.setting.Setting.{Setting}
use Rattle.mq_objects.specs.declared.setting.Setting.TheVariants as settings
use Rattle.mq_objects.specs.declared.command.Command.{Command}
use Rattle.mq_objects.specs.declared.command.Command.TheVariants as commands

-- MAXMSGL is at most 4,194,304
abbrev pub setting_fits : Setting → Bool
setting_fits (settings.MaxMessageLength n) = nat_le n 4194304
setting_fits _ = true

-- each that ALTER QMGR gives
abbrev pub fits : Command → Bool
fits (commands.AlterManager a) = list_all setting_fits a.settings
fits _ = true
