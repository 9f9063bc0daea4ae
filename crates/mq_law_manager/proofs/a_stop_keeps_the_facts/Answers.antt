use Rattle.mq_law_manager.proofs.Ending.{stop_sound}
use Rattle.mq_law_manager.proofs.a_stop_keeps_the_facts.Goals as goal

pub returns : goal.returns
returns c = stop_sound
