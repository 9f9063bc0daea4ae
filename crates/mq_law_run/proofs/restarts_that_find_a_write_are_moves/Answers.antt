use Rattle.mq_law_run.proofs.Finding as finding
use Rattle.mq_law_run.proofs.restarts_that_find_a_write_are_moves.Goals as goal

pub returns : goal.returns
returns c = λ s hs whole p es x h stamp z noted starts started scenario peace split calm is tells own down call chance done. finding.return_moves s hs whole p es x z (record { h = h; is = is; stamp = stamp; tells = tells; own = own }) noted starts started scenario peace split calm down call chance done
