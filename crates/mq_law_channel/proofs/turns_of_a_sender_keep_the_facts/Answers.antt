use Rattle.mq_law_channel.proofs.Operating.{timeouts_keep}
use Rattle.mq_law_channel.proofs.Sent.{sender_turn_keeps}
use Rattle.mq_law_channel.proofs.turns_of_a_sender_keep_the_facts.Goals as goal

pub returns : goal.returns
returns c = record { turn = sender_turn_keeps; timeout = timeouts_keep }
