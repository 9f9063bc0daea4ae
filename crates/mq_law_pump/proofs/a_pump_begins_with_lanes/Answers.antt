use Rattle.mq_law_pump.proofs.Beginning.{begins}
use Rattle.mq_law_pump.proofs.a_pump_begins_with_lanes.Goals as goal

pub returns : goal.returns
returns c = begins
