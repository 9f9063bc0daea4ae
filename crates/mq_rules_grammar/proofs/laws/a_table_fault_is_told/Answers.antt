use Rattle.mq_rules_grammar.proofs.Tables.{fault_found, fault_is}
use Rattle.mq_rules_grammar.proofs.laws.a_table_fault_is_told.Goals as goal

pub returns : goal.returns
returns c = record { found = λ own text fault e. fault_found own text fault e; read = λ own text fault h. fault_is own text fault h }
