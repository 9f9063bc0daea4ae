use Rattle.mq_law_run.proofs.Restarting as restarting
use Rattle.mq_law_run.proofs.Stopping as stopping
use Rattle.mq_law_run.proofs.stops_and_restarts_are_moves.Goals as goal

pub returns : goal.returns
returns c = record {
  stops = λ s hs p x h stamp z scenario is tells own up call chance done. stopping.stop_moves s hs p x z (record { h = h; is = is; stamp = stamp; tells = tells; own = own }) scenario up call chance done;
  restarts = λ s hs p x h stamp z noted starts started scenario is tells own down call chance done. restarting.rise_moves s hs p x z (record { h = h; is = is; stamp = stamp; tells = tells; own = own }) noted starts started scenario down call chance done;
}
