use Rattle.mq_law_scenario.proofs.Either.{text_either, never_both, one_fault}
use Rattle.mq_law_scenario.proofs.laws.a_text_is_a_scenario_or_has_a_fault.Goals as goal

pub returns : goal.returns
returns c = record { either = λ text. text_either text; never_both = λ text s fault h g. never_both text s fault h g; one_fault = λ text fault other h g. one_fault text fault other h g }
