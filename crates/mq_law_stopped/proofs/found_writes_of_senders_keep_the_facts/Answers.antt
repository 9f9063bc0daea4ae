use Rattle.mq_law_stopped.proofs.Redoing as redoing
use Rattle.mq_law_stopped.proofs.found_writes_of_senders_keep_the_facts.Goals as goal

pub returns : goal.returns
returns c = redoing.near_redone
