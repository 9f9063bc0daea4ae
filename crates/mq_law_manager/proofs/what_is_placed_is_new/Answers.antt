use Rattle.mq_law_manager.proofs.Needed.{next_lacks, put_lacks, takes_are_held, held_are_taken}
use Rattle.mq_law_manager.proofs.what_is_placed_is_new.Goals as goal

pub returns : goal.returns
returns c = record {
  next = λ name p h. next_lacks name p h.facts;
  waits = λ name n a p h m. put_lacks name n a p h.facts m;
  taken = λ n t p h m. takes_are_held n t p h.facts m;
  held = λ name r n p h m e. held_are_taken name r n p h.facts m e;
}
