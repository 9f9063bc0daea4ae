use Rattle.mq_sc_grammar.proofs.Whole.{text_fault_read, text_fault_found}
use Rattle.mq_sc_grammar.proofs.laws.a_text_fault_is_told.Goals as goal

pub returns : goal.returns
returns c = record { found = λ text fault e. text_fault_found text fault e; read = λ text fault h. text_fault_read text fault h }
