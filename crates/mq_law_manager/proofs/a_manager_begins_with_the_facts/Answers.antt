use Rattle.mq_law_manager.proofs.Ending.{first_sound}
use Rattle.mq_law_manager.proofs.a_manager_begins_with_the_facts.Goals as goal

pub returns : goal.returns
returns c = first_sound
