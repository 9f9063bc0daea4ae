use Rattle.mq_law_run.proofs.Popping as popping
use Rattle.mq_law_run.proofs.what_ends_pop_was_offered.Goals as goal

pub returns : goal.returns
returns c = record { senders = popping.senders_see; receivers = popping.receivers_see }
