use Rattle.mq_law_rows.proofs.Ordering as ordering
use Rattle.mq_law_rows.proofs.Young as young
use Rattle.mq_law_rows.proofs.batches_keep_the_order.Goals as goal

pub returns : goal.returns
returns c = record {
  kept = young.order_keep;
  placed = young.order_place;
  landed = young.order_all;
  owned = young.order_ghost;
  taken = ordering.order_holds;
  queue = ordering.keeps_queue;
  committed = ordering.commit_keeps;
  listed = ordering.commit_lists;
  first = ordering.first_is_front;
  list = ordering.lands_in_order;
}
