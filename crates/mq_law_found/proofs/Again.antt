-- A restart that finds a stopped write has a sound manager: it is where the call would have come to, whatever the moment.
use Rattle.std.proofs.Common.{ℕ, ◌≡◌, true, List, refl, ap, sym, subst, ◌∙◌}
use Rattle.std.specs.Prelude.{Option, Some, None}
use Rattle.mq_queue.specs.declared.row.Row.{Row}
use Rattle.std.specs.Prelude.{not}
use Rattle.mq_calls.specs.declared.records.LogRecord.{LogRecord}
use Rattle.mq_calls.specs.State.{Plain, Queue, Running, LogState, Noted, Change, Given}
use Rattle.mq_calls.specs.State.Which.{Nonpersistent}
use Rattle.mq_calls.specs.Changes.{apply_all, kept_in, selects}
use Rattle.mq_calls.specs.Images.{lasting, raised}
use Rattle.mq_calls.specs.declared.image.Image.{Image}
use Rattle.mq_calls.specs.Steps.{logged, volatile_gone, stands_in}
use Rattle.mq_spec_manager.specs.Stops.{redone, restarted, grown}
use Rattle.mq_law_manager.specs.Facts.{IsSound}
use Rattle.mq_law_manager.proofs.Numbered.{ImageRests}
use Rattle.mq_law_manager.proofs.Restarting.{lasting_rests}
use Rattle.mq_law_manager.proofs.StockStarts.{ImageStocked, lasting_stocked}
use Rattle.mq_law_manager.proofs.Ending.{sound_still, begun_sound}
use Rattle.mq_law_log.specs.Keeps.{AreLaned}
use Rattle.mq_law_log.proofs.Bridge.{sound_logs}
use Rattle.mq_law_log.proofs.Placings.{all_mapped, laned_kept}
use Rattle.mq_law_log.proofs.Steady.{AllSteady, AllLaned, same_all}
use Rattle.mq_law_log.proofs.Stops.{frozen_lasts}
use Rattle.mq_law_found.specs.Finds.{since}

-- What lasts of steady changes does not go by the moment, nor by rows that do not last.

gone_laned : (p : Plain) → AllLaned p → AllLaned (volatile_gone p)
gone_laned p h = all_mapped (λ (x : Queue). AreLaned x.rows) (kept_in Nonpersistent) (λ x k. laned_kept (λ (row : Row). not (selects Nonpersistent x.name row)) x.rows k) p.queues h

pub steady_lasts : (cs : List Change) (p : Plain) (w : Option LogRecord) (running : Running) (moment : ℕ) (log : LogState) → IsSound p → AllSteady cs p
    → lasting (apply_all cs (since (volatile_gone p) running moment log)) ≡ lasting (apply_all cs (logged w p))
steady_lasts cs p w running moment log h a =
    let laned : AllLaned p = (sound_logs p h).laned in
    same_all cs (since (volatile_gone p) running moment log) p a (record { same = frozen_lasts None 0 p; near = gone_laned p laned; far = laned }) ∙ sym (at w laned)
  where
    at : (w : Option LogRecord) → AllLaned p → lasting (apply_all cs (logged w p)) ≡ lasting (apply_all cs p)
    at None laned = refl
    at (Some r) laned = same_all cs (logged (Some r) p) p a (record { same = refl; near = laned; far = laned })

pub rises : (n : Noted) (p there : Plain) → IsSound there → there.given ≡ p.given
    → ((running : Running) (moment : ℕ) (log : LogState) → lasting (apply_all n.changes (since (volatile_gone p) running moment log)) ≡ lasting there)
    → (started : ℕ) (running : Running) (moment : ℕ) (log : LogState) → IsSound (restarted true started (Some n) (since (volatile_gone p) running moment log))
rises n p there s given same started running moment log =
    let down : Plain = since (volatile_gone p) running moment log in
    let image : Image = raised started (lasting (redone n down)) in
    let is : raised started (lasting there) ≡ image = ap (raised started) (sym (same running moment (stands_in n.written log))) in
    let rests : ImageRests p.given image = subst (λ (g : Given). ImageRests g image) given (subst (ImageRests there.given) is (lasting_rests started there (sound_still there s).still)) in
    begun_sound p.given image (grown started (redone n down)) moment rests (subst (λ (g : Given). ImageStocked g.number image) given (subst (ImageStocked there.given.number) is (lasting_stocked started there s.facts.batched.one s.named s.stocked)))
