use Rattle.mq_law_scenario.proofs.Kept.{text_kept}
use Rattle.mq_law_scenario.proofs.laws.scenarios_of_texts_keep_to_their_limits.Goals as goal

pub returns : goal.returns
returns c = λ text s h. text_kept text s h
