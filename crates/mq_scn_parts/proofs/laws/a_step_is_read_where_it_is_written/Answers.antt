use Rattle.mq_scn_parts.proofs.StepLines.{step_found, step_is_read}
use Rattle.mq_scn_parts.proofs.laws.a_step_is_read_where_it_is_written.Goals as goal

pub returns : goal.returns
returns c = record { found = λ s text step e. step_found s text step e; read = λ s text step h. step_is_read s text step h }
