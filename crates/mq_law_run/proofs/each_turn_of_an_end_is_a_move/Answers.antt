use Rattle.mq_law_run.proofs.Acting as acting
use Rattle.mq_law_run.proofs.each_turn_of_an_end_is_a_move.Goals as goal

pub returns : goal.returns
returns c = record {
  senders = λ s hs p rest x h stamp z i premises story is tells own actor call. acting.sender_acts s hs p rest x z (record { h = h; is = is; stamp = stamp; tells = tells; own = own }) i premises story actor call;
  receivers = λ s hs whole p rest es x h stamp z i premises story peace split is tells own actor call. acting.receiver_acts s hs whole p rest es x z (record { h = h; is = is; stamp = stamp; tells = tells; own = own }) i premises story peace split actor call;
  timeouts = λ s hs p x h stamp z premises is tells own call. acting.timeout_acts s hs p x z (record { h = h; is = is; stamp = stamp; tells = tells; own = own }) premises call;
}
