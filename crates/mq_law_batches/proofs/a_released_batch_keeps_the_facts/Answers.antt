use Rattle.mq_law_batches.proofs.Releasing.{releases}
use Rattle.mq_law_batches.proofs.a_released_batch_keeps_the_facts.Goals as goal

pub returns : goal.returns
returns c = releases
