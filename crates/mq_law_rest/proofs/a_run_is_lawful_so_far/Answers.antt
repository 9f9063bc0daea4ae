use Rattle.mq_law_rest.proofs.SoFar.{premises_until}
use Rattle.mq_law_rest.proofs.a_run_is_lawful_so_far.Goals as goal

pub returns : goal.returns
returns c = premises_until
