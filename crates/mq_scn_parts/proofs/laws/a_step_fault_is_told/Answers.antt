use Rattle.mq_scn_parts.proofs.StepLines.{fault_found, fault_is_read}
use Rattle.mq_scn_parts.proofs.laws.a_step_fault_is_told.Goals as goal

pub returns : goal.returns
returns c = record { found = λ s text f e. fault_found s text f e; read = λ s text f h. fault_is_read s text f h }
