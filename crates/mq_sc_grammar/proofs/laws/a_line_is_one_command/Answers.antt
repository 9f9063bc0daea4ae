use Rattle.mq_sc_grammar.proofs.Readings.{one_command}
use Rattle.mq_sc_grammar.proofs.laws.a_line_is_one_command.Goals as goal

pub returns : goal.returns
returns c = λ kinds command other p q. one_command kinds command other p q
