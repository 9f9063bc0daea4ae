use Rattle.mq_law_run.proofs.Breaking as breaking
use Rattle.mq_law_run.proofs.each_command_on_an_end_is_a_move.Goals as goal

pub returns : goal.returns
returns c = λ s hs whole p es x h stamp z op premises peace split is tells own call. breaking.obeys_all s hs whole p es x z (record { h = h; is = is; stamp = stamp; tells = tells; own = own }) op premises peace split call
