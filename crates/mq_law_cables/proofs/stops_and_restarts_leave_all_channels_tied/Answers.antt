use Rattle.mq_law_cables.proofs.Keeping as keeping
use Rattle.mq_law_cables.proofs.stops_and_restarts_leave_all_channels_tied.Goals as goal

pub returns : goal.returns
returns c = keeping.rests
