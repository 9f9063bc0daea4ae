use Rattle.mq_law_run.proofs.Rising as rising
use Rattle.mq_law_run.proofs.each_stop_and_each_restart_is_a_move.Goals as goal

pub returns : goal.returns
returns c = record {
  stops = λ s hs p x h stamp z scenario is tells own call. rising.crash_moves s hs p x z (record { h = h; is = is; stamp = stamp; tells = tells; own = own }) scenario call;
  restarts = λ s hs whole p es x h stamp z scenario peace split calm is tells own call. rising.restart_moves s hs whole p es x z (record { h = h; is = is; stamp = stamp; tells = tells; own = own }) scenario peace split calm call;
}
