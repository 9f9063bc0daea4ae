use Rattle.mq_law_run.proofs.Owning as owning
use Rattle.mq_law_run.proofs.what_is_a_managers_own_is_a_move.Goals as goal

pub returns : goal.returns
returns c = λ s hs p x h stamp z is tells own call. owning.own_moves s hs p x z (record { h = h; is = is; stamp = stamp; tells = tells; own = own }) call
