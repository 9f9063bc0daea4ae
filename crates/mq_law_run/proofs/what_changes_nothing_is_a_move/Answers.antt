use Rattle.mq_law_run.proofs.Idling as idling
use Rattle.mq_law_run.proofs.what_changes_nothing_is_a_move.Goals as goal

pub returns : goal.returns
returns c = idling.idle_moves
