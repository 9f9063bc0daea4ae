use Rattle.mq_law_receipts.proofs.Receiving.{receives}
use Rattle.mq_law_receipts.proofs.a_receivers_commit_keeps_the_facts.Goals as goal

pub returns : goal.returns
returns c = receives
