use Rattle.mq_law_turns.proofs.Sending.{turns}
use Rattle.mq_law_turns.proofs.a_senders_turn_keeps_the_facts.Goals as goal

pub returns : goal.returns
returns c = turns
