use Rattle.mq_law_cables.proofs.Unprepared.{unprepared}
use Rattle.mq_law_cables.proofs.batches_of_cables_are_unprepared.Goals as goal

pub returns : goal.returns
returns c = unprepared
