use Rattle.mq_law_pump.proofs.Taking.{receiver_takes}
use Rattle.mq_law_pump.proofs.turns_of_receivers_are_turns_of_lanes.Goals as goal

pub returns : goal.returns
returns c = receiver_takes
