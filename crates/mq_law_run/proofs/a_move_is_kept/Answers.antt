use Rattle.mq_law_run.proofs.Standing as standing
use Rattle.mq_law_run.proofs.a_move_is_kept.Goals as goal

pub returns : goal.returns
returns c = standing.keeps_on
