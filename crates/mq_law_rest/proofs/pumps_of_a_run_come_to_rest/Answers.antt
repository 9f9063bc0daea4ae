use Rattle.mq_law_rest.proofs.Resting.{pumps_rest}
use Rattle.mq_law_rest.proofs.pumps_of_a_run_come_to_rest.Goals as goal

pub returns : goal.returns
returns c = pumps_rest
