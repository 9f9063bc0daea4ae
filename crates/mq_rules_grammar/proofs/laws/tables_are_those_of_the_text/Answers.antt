use Rattle.mq_rules_grammar.proofs.Tables.{table_found, table_is, one_table}
use Rattle.mq_rules_grammar.proofs.laws.tables_are_those_of_the_text.Goals as goal

pub returns : goal.returns
returns c = record { found = λ own text table e. table_found own text table e; read = λ own text table h. table_is own text table h; one_table = λ own text table other h g. one_table own text table other h g }
