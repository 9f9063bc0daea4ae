use Rattle.std.proofs.Common.{ap, sym, ◌∙◌}
use Rattle.std.specs.Prelude.{List}
use Rattle.mq_sc_lex.specs.declared.token.Line.{Line}
use Rattle.mq_sc_lex.specs.Commands.{behind_lines}
use Rattle.mq_sc_lex.specs.Tokens.{commands_of_marks}
use Rattle.mq_sc_lex.proofs.CommandLaws.{first_read}
use Rattle.mq_sc_lex.proofs.commanding.line_commands.Goals as goal

pub returns : goal.returns
returns c = first_read (commands_of_marks c.args.marks.now) c.add_line.new.self.lines (ap (λ (ls : List Line). behind_lines ls (commands_of_marks c.args.marks.now)) (sym c.new.ensures) ∙ c.in_ok-add_line.ensures.lines)
