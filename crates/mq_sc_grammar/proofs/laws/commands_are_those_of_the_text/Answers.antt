use Rattle.mq_sc_grammar.proofs.Whole.{text_read, text_found}
use Rattle.mq_sc_grammar.proofs.laws.commands_are_those_of_the_text.Goals as goal

pub returns : goal.returns
returns c = record { found = λ text lines e. text_found text lines e; read = λ text lines h. text_read text lines h }
