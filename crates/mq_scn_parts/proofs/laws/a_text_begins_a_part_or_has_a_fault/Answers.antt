use Rattle.mq_scn_parts.proofs.PartLines.{either_part, never_both, one_part, one_fault}
use Rattle.mq_scn_parts.proofs.laws.a_text_begins_a_part_or_has_a_fault.Goals as goal

pub returns : goal.returns
returns c = record { either = λ s stage text. either_part s stage text; never_both = λ s stage text p f a b. never_both s stage text p f a b; one_part = λ s stage text p q a b. one_part s stage text p q a b; one_fault = λ s stage text f g a b. one_fault s stage text f g a b }
