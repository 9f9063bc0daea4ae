use Rattle.mq_law_log.proofs.Agents.{trigger_harmless, seize_harmless, leave_harmless, bound_harmless, expire_harmless, hold_harmless, release_harmless, prepare_harmless_whole, harden_harmless_whole, discard_harmless}
use Rattle.mq_law_log.proofs.Landings.{receive_harmless}
use Rattle.mq_law_log.proofs.Moves.{move_harmless}
use Rattle.mq_law_log.proofs.calls_of_agents_are_harmless.Goals as goal

pub returns : goal.returns
returns c = record {
  triggers = trigger_harmless;
  seizes = λ channel p h. seize_harmless channel p;
  leaves = λ channel p h. leave_harmless channel p;
  binds = λ channel bound p h. bound_harmless channel bound p;
  expires = expire_harmless;
  holds = λ channel unit most p can h. hold_harmless channel unit most p can;
  releases = λ channel p h. release_harmless channel p;
  prepares = prepare_harmless_whole;
  hardens = λ channel note p can h. harden_harmless_whole channel note p can;
  receives = receive_harmless;
  moves = move_harmless;
  discards = discard_harmless;
}
