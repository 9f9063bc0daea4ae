use Rattle.mq_law_one.proofs.Running as running
use Rattle.mq_law_one.proofs.managers_alone_are_as_promised.Goals as goal

pub returns : goal.returns
returns c = running.promised
