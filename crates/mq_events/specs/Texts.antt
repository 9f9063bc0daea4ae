-- Commands on objects whose values are such as a text of commands gives.
use Rattle.mq_history.specs.declared.acts.Act.TheVariants as acts
use Rattle.mq_history.specs.declared.calls.Call.TheVariants as calls
use Rattle.mq_sc_parse.specs.declared.command.Command.TheVariants as commands
use Rattle.mq_manager.specs.from_law_image.Values.{IsCommandText}
use Rattle.mq_spec_node.specs.Terms.{Act, Call, Command}

-- a command, an act, a call: of objects, if it is of any
abbrev pub IsTextCommand : Command → Type 0
IsTextCommand (commands.Objects c) = IsCommandText c
IsTextCommand (commands.Operate op) = Unit {0}
IsTextCommand (commands.ShowStatus name any_end) = Unit {0}

abbrev pub IsTextAct : Act → Type 0
IsTextAct (acts.Obey c) = IsTextCommand c
IsTextAct _ = Unit {0}

abbrev pub IsTextCall : Call → Type 0
IsTextCall (calls.Act act) = IsTextAct act
IsTextCall _ = Unit {0}
