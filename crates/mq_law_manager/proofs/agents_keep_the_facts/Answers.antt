use Rattle.mq_spec_manager.specs.Words.{trigger_turn}
use Rattle.mq_spec_manager.specs.Agents.{seize, leave, set_bound, expire, release_batch, prepare, hold_batch, harden, move_row, discard}
use Rattle.mq_law_manager.proofs.Handling.{trigger_turn_keeps, seize_keeps, leave_keeps, set_bound_keeps, expire_keeps, move_row_keeps, discard_keeps}
use Rattle.mq_law_manager.proofs.Batches.{release_batch_keeps, prepare_keeps, harden_keeps}
use Rattle.mq_law_manager.proofs.Stopping.{hold_batch_keeps}
use Rattle.mq_law_manager.proofs.Stocks.{trigger_stocked, seize_stocked, leave_stocked, bound_stocked, expire_stocked, release_stocked, prepare_stocked, hold_stocked, harden_stocked, move_stocked, discard_stocked}
use Rattle.mq_law_manager.proofs.Ending.{joined}
use Rattle.mq_law_manager.proofs.agents_keep_the_facts.Goals as goal

pub returns : goal.returns
returns c = record {
  triggers = λ p h. joined (trigger_turn p) p h (trigger_turn_keeps p h.facts) (trigger_stocked p h.stocked);
  seizes = λ channel p h. joined (seize channel p) p h (seize_keeps channel p h.facts) (seize_stocked channel p h.stocked);
  leaves = λ channel p h. joined (leave channel p) p h (leave_keeps channel p h.facts) (leave_stocked channel p h.stocked);
  binds = λ channel bound p h. joined (set_bound channel bound p) p h (set_bound_keeps channel bound p h.facts) (bound_stocked channel bound p h.stocked);
  expires = λ channel p h. joined (expire channel p) p h (expire_keeps channel p h.facts) (expire_stocked channel p h.stocked);
  releases = λ channel p h. joined (release_batch channel p) p h (release_batch_keeps channel p h.facts) (release_stocked channel p h.facts h.stocked);
  prepares = λ channel last p h. joined (prepare channel last p) p h (prepare_keeps channel last p h.facts) (prepare_stocked channel last p h.facts h.stocked);
  holds = λ channel unit most p can h. joined (hold_batch channel unit most p) p h (hold_batch_keeps channel unit most p can h.facts) (hold_stocked channel unit most p h.stocked);
  hardens = λ channel note p can h. joined (harden channel note p) p h (harden_keeps channel note p can h.facts) (harden_stocked channel note p h.stocked);
  moves = λ from ident to bare p can h. joined (move_row from ident to bare p) p h (move_row_keeps from ident to bare p h.facts can) (move_stocked from ident to bare p can h.facts h.stocked);
  discards = λ queue ident p can h. joined (discard queue ident p) p h (discard_keeps queue ident p h.facts can) (discard_stocked queue ident p h.stocked);
}
