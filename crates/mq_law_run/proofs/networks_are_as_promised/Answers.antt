use Rattle.mq_law_run.proofs.Whole as whole
use Rattle.mq_law_run.proofs.networks_are_as_promised.Goals as goal

pub returns : goal.returns
returns c = whole.promised
