use Rattle.mq_law_batches.proofs.Settling as settling
use Rattle.mq_law_batches.proofs.prepared_and_settled_units_keep_the_facts.Goals as goal

pub returns : goal.returns
returns c = record { prepared = settling.prepares; dropped = settling.drops; forced = settling.forces; backed_out = settling.backs_out }
