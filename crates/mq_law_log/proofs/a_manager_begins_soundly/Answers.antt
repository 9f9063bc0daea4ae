use Rattle.mq_law_log.proofs.First.{first_sound}
use Rattle.mq_law_log.proofs.a_manager_begins_soundly.Goals as goal

pub returns : goal.returns
returns c = first_sound
