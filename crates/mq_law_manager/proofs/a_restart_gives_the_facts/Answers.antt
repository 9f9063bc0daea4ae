use Rattle.mq_law_manager.proofs.Ending.{restart_sound}
use Rattle.mq_law_manager.proofs.a_restart_gives_the_facts.Goals as goal

pub returns : goal.returns
returns c = restart_sound
