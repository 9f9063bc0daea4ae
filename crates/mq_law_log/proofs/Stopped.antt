-- Behind a call of which a write was stopped a restart gives a sound manager, found or not.
use Rattle.std.proofs.Common.{ℕ, zero, suc, Bool, true, false, List, [], ◌∷◌}
use Rattle.mq_calls.specs.State.{Plain}
use Rattle.mq_calls.specs.Steps.{Part, IsWrite, do_part, note_of, stopped_at}
use Rattle.mq_spec_manager.specs.Stops.{restarted}
use Rattle.mq_law_manager.specs.Facts.{IsSound}
use Rattle.mq_law_manager.specs.Kept.{AllKeep}
use Rattle.mq_law_manager.proofs.Ending.{frozen, restart_sound}
use Rattle.mq_law_log.specs.Restarts.{AllHarmless, note_at}
use Rattle.mq_law_log.proofs.Founds.{found_sound}
use Rattle.mq_law_log.proofs.Ties.{some_of}

pub stopped_sound : (kept : Bool) (n : ℕ) (parts : List Part) (left started : ℕ) (p : Plain) → IsWrite n parts → AllHarmless parts p → AllKeep IsSound parts p → IsSound p → IsSound (restarted kept started (note_at n parts) (stopped_at n parts left p))
stopped_sound kept n [] left started p w h k s = absurd w
stopped_sound true zero (part ∷ parts) left started p w h k s = let r = some_of part.forced w in found_sound part r.0 left started p r.1 h.0 k.0
stopped_sound false zero (part ∷ parts) left started p w h k s = restart_sound started (note_of part part.forced) _ (frozen (note_of part part.forced) left p s)
stopped_sound kept (suc n) (part ∷ parts) left started p w h k s = stopped_sound kept n parts left started (do_part part p) w h.2 k.1 k.0
