use Rattle.mq_law_run.proofs.Failing as failing
use Rattle.mq_law_run.proofs.failing_restarts_are_moves.Goals as goal

pub returns : goal.returns
returns c = failing.failing_moves
