use Rattle.mq_law_rows.proofs.Holding as holding
use Rattle.mq_law_rows.proofs.Batches as batches
use Rattle.mq_law_rows.proofs.Settling as settling
use Rattle.mq_law_rows.proofs.Receiving as receiving
use Rattle.mq_law_rows.proofs.batches_keep_the_facts.Goals as goal

pub returns : goal.returns
returns c = record {
  held = holding.holds_batch;
  fronted = holding.takes_batch;
  prepared = holding.prepares;
  released = batches.releases_batch;
  dropped = settling.drops_batch;
  forced = settling.forces_unit;
  received = receiving.receives;
  awaited = settling.commits_held;
  operated = settling.commits_operated;
}
