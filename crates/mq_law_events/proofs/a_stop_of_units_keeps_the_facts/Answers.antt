use Rattle.mq_law_events.proofs.Resting as resting
use Rattle.mq_law_events.proofs.a_stop_of_units_keeps_the_facts.Goals as goal

pub returns : goal.returns
returns c = resting.backs_out_all
