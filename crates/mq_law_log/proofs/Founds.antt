-- A restart that finds the stopped write has a sound manager too: it is where the call had come to.
use Rattle.std.proofs.Common.{ℕ, ◌≡◌, true, ap, sym, subst, ◌∙◌}
use Rattle.std.specs.Prelude.{Option, Some}
use Rattle.mq_calls.specs.declared.records.LogRecord.{LogRecord}
use Rattle.mq_calls.specs.State.{Plain, Given, Noted}
use Rattle.mq_calls.specs.Images.{lasting, raised}
use Rattle.mq_calls.specs.declared.image.Image.{Image}
use Rattle.mq_calls.specs.Steps.{Part, do_part, freeze, note_of}
use Rattle.mq_spec_manager.specs.Stops.{redone_if, restarted, grown}
use Rattle.mq_law_manager.specs.Facts.{IsSound}
use Rattle.mq_law_manager.proofs.Numbered.{ImageRests}
use Rattle.mq_law_manager.proofs.Restarting.{lasting_rests}
use Rattle.mq_law_manager.proofs.StockStarts.{ImageStocked, lasting_stocked}
use Rattle.mq_law_manager.proofs.Ending.{sound_still, begun_sound}
use Rattle.mq_law_manager.proofs.Untouched.{part_given}
use Rattle.mq_law_log.specs.Restarts.{IsHarmless}
use Rattle.mq_law_log.proofs.Stops.{restart_recovers}
use Rattle.mq_law_log.proofs.Ties.{told}

pub found_sound : (part : Part) (r : LogRecord) (left started : ℕ) (p : Plain) → part.forced ≡ Some r → IsHarmless part p → IsSound (do_part part p)
    → IsSound (restarted true started (note_of part part.forced) (freeze (note_of part part.forced) left p))
found_sound part r left started p forced h s =
    let noted : Option Noted = note_of part part.forced in
    let down : Plain = freeze noted left p in
    let there : Plain = do_part part p in
    let image : Image = raised started (lasting (redone_if true noted down)) in
    let same : raised started (lasting there) ≡ image = ap (raised started) (told part.forced r p (lasting there) forced h.keeps) ∙ sym (h.found r left started forced).1 ∙ restart_recovers true started noted down in
    let given : there.given ≡ p.given = part_given part p in
    let rests : ImageRests p.given image = subst (λ (g : Given). ImageRests g image) given (subst (ImageRests there.given) same (lasting_rests started there (sound_still there s).still)) in
    begun_sound p.given image (grown started (redone_if true noted down)) down.moment rests (subst (λ (g : Given). ImageStocked g.number image) given (subst (ImageStocked there.given.number) same (lasting_stocked started there s.facts.batched.one s.named s.stocked)))
