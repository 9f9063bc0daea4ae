use Rattle.mq_law_manager.proofs.Ending.{ends}
use Rattle.mq_law_manager.proofs.calls_end_with_the_facts.Goals as goal

pub returns : goal.returns
returns c d = ends
