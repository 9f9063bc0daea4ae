use Rattle.mq_law_batches.proofs.Holding.{holds, takes}
use Rattle.mq_law_batches.proofs.a_held_batch_keeps_the_facts.Goals as goal

pub returns : goal.returns
returns c = record { held = holds; fronted = takes }
