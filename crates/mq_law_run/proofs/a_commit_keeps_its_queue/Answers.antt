use Rattle.mq_law_run.proofs.Ordering.{keeps_its_queue}
use Rattle.mq_law_run.proofs.a_commit_keeps_its_queue.Goals as goal

pub returns : goal.returns
returns c = keeps_its_queue
