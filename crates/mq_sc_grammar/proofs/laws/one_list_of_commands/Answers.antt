use Rattle.mq_sc_grammar.proofs.Whole.{one_text}
use Rattle.mq_sc_grammar.proofs.laws.one_list_of_commands.Goals as goal

pub returns : goal.returns
returns c = λ text lines others p q. one_text text lines others p q
