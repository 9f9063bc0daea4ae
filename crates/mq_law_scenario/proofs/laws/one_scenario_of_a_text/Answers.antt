use Rattle.mq_law_scenario.proofs.Either.{one_scenario}
use Rattle.mq_law_scenario.proofs.laws.one_scenario_of_a_text.Goals as goal

pub returns : goal.returns
returns c = λ text s other h g. one_scenario text s other h g
