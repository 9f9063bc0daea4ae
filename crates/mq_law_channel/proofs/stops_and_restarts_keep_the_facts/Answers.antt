use Rattle.mq_law_channel.proofs.Noted as by
use Rattle.mq_law_channel.proofs.Operating as at_rest
use Rattle.mq_law_channel.proofs.stops_and_restarts_keep_the_facts.Goals as goal

pub returns : goal.returns
returns c = record {
  sender = at_rest.sender_inactive;
  receiver_halts = at_rest.receiver_halts;
  receiver = at_rest.receiver_inactive;
  sender_noted = by.sender_noted;
  receiver_noted = by.receiver_noted;
}
