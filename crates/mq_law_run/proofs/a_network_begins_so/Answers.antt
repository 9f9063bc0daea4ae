use Rattle.mq_law_run.proofs.Beginning as beginning
use Rattle.mq_law_run.proofs.a_network_begins_so.Goals as goal

pub returns : goal.returns
returns c = beginning.begins
