-- Commands that stand in texts.
use Rattle.std.specs.Prelude.{◌≡◌, ℕ, List, Ok}
use Rattle.mq_base.specs.Members.{Mem}
use Rattle.mq_sc_lex.specs.declared.token.Line.{Line}
use Rattle.mq_sc_lex.specs.Commands.{commands_of}
use Rattle.mq_sc_parse.specs.declared.command.Command.{Command}
use Rattle.mq_sc_parse.specs.Parsing.{parse_of}

-- a line of a text of commands is this command
pub record IsWritten (c : Command) : Type 0 where
  pub text : List ℕ
  pub lines : List Line
  pub line : Line
  pub read : commands_of text ≡ Ok lines
  pub there : Mem line lines
  pub parsed : parse_of line ≡ Ok c
