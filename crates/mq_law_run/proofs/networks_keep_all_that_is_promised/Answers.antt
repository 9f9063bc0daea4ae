use Rattle.mq_law_run.proofs.Whole as whole
use Rattle.mq_law_run.proofs.networks_keep_all_that_is_promised.Goals as goal

pub returns : goal.returns
returns c = λ s hs. whole.promised_in_order s hs
