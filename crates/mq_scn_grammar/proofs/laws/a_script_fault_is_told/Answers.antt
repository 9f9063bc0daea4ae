use Rattle.mq_scn_grammar.proofs.Script.{fault_found, fault_read}
use Rattle.mq_scn_grammar.proofs.laws.a_script_fault_is_told.Goals as goal

pub returns : goal.returns
returns c = record { found = λ left text fault e. fault_found left text fault e; read = λ left text fault h. fault_read left text fault h }
