use Rattle.mq_law_turns.proofs.Resting.{rests}
use Rattle.mq_law_turns.proofs.stops_and_restarts_keep_channels_tied.Goals as goal

pub returns : goal.returns
returns c = rests
