use Rattle.std.proofs.Common.{refl}
use Rattle.mq_law_manager.proofs.Ending.{sound_still}
use Rattle.mq_law_log.proofs.Asides.{clock_sound, cut_sound, clock_frozen, cut_frozen, failed_frozen}
use Rattle.mq_law_log.proofs.what_is_no_call_keeps_the_facts.Goals as goal

pub returns : goal.returns
returns c = record { clock = clock_sound; cuts = cut_sound; clock_down = clock_frozen; cuts_down = cut_frozen; fails = failed_frozen; rests = sound_still; lasts = λ by k p. (refl, refl) }
