use Rattle.mq_law_scenario.proofs.ReadBack.{fault_read}
use Rattle.mq_law_scenario.proofs.Either.{fault_found}
use Rattle.mq_law_scenario.proofs.laws.the_first_fault_is_told.Goals as goal

pub returns : goal.returns
returns c = record { found = λ text fault e. fault_found text fault e; read = λ text fault h. fault_read text fault h }
