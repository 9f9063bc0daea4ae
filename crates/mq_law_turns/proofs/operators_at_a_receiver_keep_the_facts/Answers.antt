use Rattle.mq_law_turns.proofs.FarOperating as operating
use Rattle.mq_law_turns.proofs.operators_at_a_receiver_keep_the_facts.Goals as goal

pub returns : goal.returns
returns c = record { starts = operating.starts; stops = operating.stops; resets = operating.resets }
