use Rattle.mq_law_run.proofs.Stamping as stamping
use Rattle.mq_law_run.proofs.offers_have_their_entries_stamps.Goals as goal

pub returns : goal.returns
returns c = stamping.offers_have_stamps
