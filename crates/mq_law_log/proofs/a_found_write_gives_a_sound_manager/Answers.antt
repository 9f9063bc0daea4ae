use Rattle.mq_law_log.proofs.Founds.{found_sound}
use Rattle.mq_law_log.proofs.a_found_write_gives_a_sound_manager.Goals as goal

pub returns : goal.returns
returns c = found_sound
