use Rattle.mq_law_rest.proofs.Turned.{pumps_tell}
use Rattle.mq_law_rest.proofs.pumps_of_a_run_are_told.Goals as goal

pub returns : goal.returns
returns c = pumps_tell
