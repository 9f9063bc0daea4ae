-- Commands whose values are such as a text of commands gives.
use Rattle.mq_law_image.specs.Values.{IsCommandText}
use Rattle.mq_sc_parse.specs.declared.command.Command.{Command}
use Rattle.mq_sc_parse.specs.declared.command.Command.TheVariants as commands

-- of objects, if it is of any
abbrev pub IsText : Command → Type 0
IsText (commands.Objects c) = IsCommandText c
IsText (commands.Operate op) = Unit {0}
IsText (commands.ShowStatus name any_end) = Unit {0}
