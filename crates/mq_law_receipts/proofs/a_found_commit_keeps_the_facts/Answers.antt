use Rattle.mq_law_receipts.proofs.Receiving.{found_receives}
use Rattle.mq_law_receipts.proofs.a_found_commit_keeps_the_facts.Goals as goal

pub returns : goal.returns
returns c = found_receives
