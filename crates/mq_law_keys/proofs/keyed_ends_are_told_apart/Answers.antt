use Rattle.mq_law_keys.proofs.Telling.{told_apart}
use Rattle.mq_law_keys.proofs.keyed_ends_are_told_apart.Goals as goal

pub returns : goal.returns
returns c = told_apart
