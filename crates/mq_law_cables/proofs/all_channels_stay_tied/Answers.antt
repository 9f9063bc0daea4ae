use Rattle.mq_law_cables.proofs.Keeping as keeping
use Rattle.mq_law_cables.proofs.all_channels_stay_tied.Goals as goal

pub returns : goal.returns
returns c = record { each = keeping.joint_of; follows = keeping.follows }
