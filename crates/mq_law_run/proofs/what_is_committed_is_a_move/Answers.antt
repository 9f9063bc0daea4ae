use Rattle.mq_law_run.proofs.Resolving as resolving
use Rattle.mq_law_run.proofs.what_is_committed_is_a_move.Goals as goal

pub returns : goal.returns
returns c = resolving.committing
