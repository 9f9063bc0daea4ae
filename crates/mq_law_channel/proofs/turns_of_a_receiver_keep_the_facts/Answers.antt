use Rattle.mq_law_channel.proofs.Taken.{receiver_turn_keeps}
use Rattle.mq_law_channel.proofs.turns_of_a_receiver_keep_the_facts.Goals as goal

pub returns : goal.returns
returns c = receiver_turn_keeps
