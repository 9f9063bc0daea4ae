use Rattle.mq_law_log.proofs.Bridge.{sound_logs}
use Rattle.mq_law_log.proofs.a_sound_manager_keeps_its_log.Goals as goal

pub returns : goal.returns
returns c = sound_logs
