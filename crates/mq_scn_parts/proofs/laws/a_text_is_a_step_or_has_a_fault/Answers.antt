use Rattle.mq_scn_parts.proofs.StepLines.{either_step, never_both, one_step, one_fault}
use Rattle.mq_scn_parts.proofs.laws.a_text_is_a_step_or_has_a_fault.Goals as goal

pub returns : goal.returns
returns c = record { either = λ s text. either_step s text; never_both = λ s text step f p q. never_both s text step f p q; one_step = λ s text step other p q. one_step s text step other p q; one_fault = λ s text f g p q. one_fault s text f g p q }
