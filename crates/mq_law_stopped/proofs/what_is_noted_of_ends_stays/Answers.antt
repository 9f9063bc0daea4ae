use Rattle.mq_law_stopped.proofs.Staying as staying
use Rattle.mq_law_stopped.proofs.what_is_noted_of_ends_stays.Goals as goal

pub returns : goal.returns
returns c = staying.notes_stay
