use Rattle.mq_law_stopped.proofs.FarRedoing as redoing
use Rattle.mq_law_stopped.proofs.found_words_of_receivers_keep_the_facts.Goals as goal

pub returns : goal.returns
returns c = redoing.far_redone
