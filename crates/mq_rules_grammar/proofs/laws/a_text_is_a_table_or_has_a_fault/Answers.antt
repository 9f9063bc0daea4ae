use Rattle.mq_rules_grammar.proofs.Tables.{text_either, never_both, one_fault}
use Rattle.mq_rules_grammar.proofs.laws.a_text_is_a_table_or_has_a_fault.Goals as goal

pub returns : goal.returns
returns c = record { either = λ own text. text_either own text; never_both = λ own text table fault h g. never_both own text table fault h g; one_fault = λ own text fault other h g. one_fault own text fault other h g }
