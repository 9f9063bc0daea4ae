use Rattle.mq_law_cables.proofs.Beginning.{begins}
use Rattle.mq_law_cables.proofs.networks_begin_with_all_channels_tied.Goals as goal

pub returns : goal.returns
returns c = begins
