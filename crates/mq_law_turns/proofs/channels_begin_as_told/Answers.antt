use Rattle.mq_law_turns.proofs.Beginning.{begins}
use Rattle.mq_law_turns.proofs.channels_begin_as_told.Goals as goal

pub returns : goal.returns
returns c = begins
