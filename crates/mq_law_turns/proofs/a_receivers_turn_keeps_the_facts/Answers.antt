use Rattle.mq_law_turns.proofs.Taking.{turns}
use Rattle.mq_law_turns.proofs.a_receivers_turn_keeps_the_facts.Goals as goal

pub returns : goal.returns
returns c = turns
