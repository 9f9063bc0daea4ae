use Rattle.mq_law_scenario.proofs.ReadBack.{text_read}
use Rattle.mq_law_scenario.proofs.Either.{text_found}
use Rattle.mq_law_scenario.proofs.laws.scenarios_are_those_of_the_text.Goals as goal

pub returns : goal.returns
returns c = record { found = λ text s e. text_found text s e; read = λ text s h. text_read text s h }
