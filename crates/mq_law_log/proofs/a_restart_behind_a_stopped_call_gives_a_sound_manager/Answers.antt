use Rattle.mq_law_log.proofs.Stopped.{stopped_sound}
use Rattle.mq_law_log.proofs.a_restart_behind_a_stopped_call_gives_a_sound_manager.Goals as goal

pub returns : goal.returns
returns c = stopped_sound
