use Rattle.mq_law_rest.proofs.Calm.{peaceful_until}
use Rattle.mq_law_rest.proofs.a_run_without_conflict_is_peaceful.Goals as goal

pub returns : goal.returns
returns c = peaceful_until
