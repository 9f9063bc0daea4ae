use Rattle.mq_sc_grammar.proofs.Faulted.{fault_read, fault_found}
use Rattle.mq_sc_grammar.proofs.laws.a_fault_is_told_where_it_stands.Goals as goal

pub returns : goal.returns
returns c = record { found = λ line fault e. fault_found line fault e; read = λ line fault h. fault_read line fault h }
