use Rattle.mq_law_log.proofs.from_law_manager.Forcing.{conn_forces, open_forces, close_forces, put_forces, put1_forces, get_forces, cmit_forces, back_forces, disc_forces, trigger_forces, seize_forces, leave_forces, bound_forces, expire_forces, hold_forces, release_forces, prepare_forces, receive_forces, move_forces, discard_forces}
use Rattle.mq_law_image.proofs.Silent.{silent, harden_makes}
use Rattle.mq_law_image.proofs.no_other_call_writes_a_change_of_objects.Goals as goal

pub returns : goal.returns
returns c = record {
  connects = conn_forces silent;
  opens = open_forces silent;
  closes = close_forces silent;
  puts = put_forces silent;
  puts_once = put1_forces silent;
  gets = get_forces silent;
  commits = cmit_forces silent;
  backs_out = back_forces silent;
  disconnects = disc_forces silent;
  triggers = trigger_forces silent;
  seizes = seize_forces silent;
  leaves = leave_forces silent;
  binds = bound_forces silent;
  expires = expire_forces silent;
  holds = hold_forces silent;
  releases = release_forces silent;
  prepares = λ channel last p. prepare_forces silent channel last p (λ b. tt);
  hardens = harden_makes;
  receives = λ channel unit last batch p. receive_forces silent channel unit last batch p (λ l. tt);
  moves = move_forces silent;
  discards = discard_forces silent;
}
