-- What holds of a manager and of its log between its calls holds of it behind a restart, whether it comes up or not.
use Rattle.std.proofs.Common.{◌≡◌, ℕ, ◌+◌, Bool, true, false, refl, ap, sym, subst}
use Rattle.std.specs.Prelude.{Option, Result, Ok, Err, MatchResult}
use Rattle.mq_calls.specs.declared.choices.Return.TheVariants.{Fails}
use Rattle.mq_calls.specs.declared.commands.RestartFault.{RestartFault}
use Rattle.mq_calls.specs.declared.commands.RestartFault.TheVariants as faults
use Rattle.mq_calls.specs.State.{LogState, Noted, Running}
use Rattle.mq_calls.specs.State.Running.{Up, Down}
use Rattle.mq_calls.specs.Images.{begun, raised}
use Rattle.mq_calls.specs.Words.{Plain, is_up}
use Rattle.mq_spec_manager.specs.Stops.{failed, restart, restart_at}
use Rattle.mq_law_manager.specs.Facts.{IsSound, IsStocked}
use Rattle.mq_law_manager.proofs.Beginning.{image_rests}
use Rattle.mq_law_manager.proofs.Ending.{sound_still, begun_sound}
use Rattle.mq_law_manager.proofs.StockStarts.{image_stocked}
use Rattle.mq_law_image.specs.Values.{AreObjectTexts}
use Rattle.mq_receive.specs.from_core.Values.{CoreValue}
use Rattle.mq_restarts.specs.from_restart.{LogRead, Unreturned}
use Rattle.mq_restarts.specs.from_restart.Returned.{IsOfImage, Stayed}
use Rattle.mq_restarts.specs.from_restart.Stands.{LogStands}
use Rattle.mq_restarts.specs.declared.restarting.Back.{Back}
use Rattle.mq_restarts.specs.Backs.{IsBack}
use Rattle.mq_manager.specs.Facts.{IsWell}
use Rattle.mq_manager.specs.Kept.{IsKept}
use Rattle.mq_manager.proofs.WellLaws.{true_false}

-- what comes up is that of an image
well_image : (p : Plain) → IsOfImage p → IsWell p
well_image p o =
    let q : Plain = begun p.given (raised 0 o.told) o.log p.moment in
    let s : IsSound q = begun_sound p.given (raised 0 o.told) o.log p.moment (image_rests p.given o.told o.well o.known) (image_stocked p.given.number o.told o.well o.known) in
    subst IsWell (sym o.plain) (record { up = λ u. s; rest = sound_still q s; limit = o.texts.own.max_message_length.1; batches = tt })

kept_came : (tells : Type 0) (read : LogRead) (p : Plain) (b : Back) (new : CoreValue) → IsBack tells p b new → LogStands tells read new.log new.plain → IsKept tells read new
kept_came tells read p b new c s = record {
  well = well_image new.plain c.image;
  log = record { texts = subst (λ (q : Plain). AreObjectTexts q.definitions) (sym c.image.plain) c.image.texts; stands = s };
}

-- one that is refused changes how it is down, and the cut that is armed
failed_is : (P : Plain → Type 0) (fault : RestartFault) (in_write : Bool) (left : ℕ) (noted : Option Noted) (starts : ℕ) (p : Plain) → is_up p.running ≡ false → P p
    → ((r : Running) (log : LogState) → is_up r ≡ false → P (record p { running = r; log = log })) → P (failed fault in_write left noted starts p).next
failed_is P faults.NoMemory in_write left noted starts p d h f = h
failed_is P faults.Up true left noted starts p d h f = f (Down noted (starts + 1)) (record p.log { armed = left }) refl
failed_is P faults.Up false left noted starts p d h f = f p.running (record p.log { armed = left }) d
failed_is P faults.Disk true left noted starts p d h f = f (Down noted (starts + 1)) (record p.log { armed = left }) refl
failed_is P faults.Disk false left noted starts p d h f = f p.running (record p.log { armed = left }) d
failed_is P faults.Cut true left noted starts p d h f = f (Down noted (starts + 1)) (record p.log { armed = left }) refl
failed_is P faults.Cut false left noted starts p d h f = f p.running (record p.log { armed = left }) d
failed_is P (faults.BadLog place) true left noted starts p d h f = f (Down noted (starts + 1)) (record p.log { armed = left }) refl
failed_is P (faults.BadLog place) false left noted starts p d h f = f p.running (record p.log { armed = left }) d

refused_is : (P : Plain → Type 0) (fault : RestartFault) (in_write : Bool) (left : ℕ) (p : Plain) → P p
    → ((r : Running) (log : LogState) → is_up r ≡ false → P (record p { running = r; log = log })) → P (restart (Fails fault in_write left) p).next
refused_is P fault in_write left p h f = by p.running refl
  where
    by : (r : Running) → p.running ≡ r → P (restart_at r (Fails fault in_write left) p).next
    by Up e = h
    by (Down noted starts) e = failed_is P fault in_write left noted starts p (ap is_up e) h f

well_refused : (r : Running) (log : LogState) (p : Plain) → is_up r ≡ false → IsWell p → IsWell (record p { running = r; log = log })
well_refused r log p d w =
    let s : IsStocked p = w.rest.stocked in
    record {
      up = λ u. absurd (true_false _ d u);
      rest = record { still = w.rest.still; named = w.rest.named; stocked = record { once = s.once; placed = s.placed; rows = s.rows; puts = s.puts; routed = s.routed } };
      limit = w.limit;
      batches = w.batches;
    }

kept_stayed : (tells : Type 0) (read after : LogRead) (v new : CoreValue) (e : Unreturned) → Stayed tells v.plain v.faults e new → LogStands tells after new.log new.plain → IsKept tells read v → IsKept tells after new
kept_stayed tells read after v new e s stands k =
    let is : new.plain ≡ (restart (Fails e.fault e.in_write e.left) v.plain).next = s.ends.plain in
    record {
      well = subst IsWell (sym is) (refused_is IsWell e.fault e.in_write e.left v.plain k.well (λ r log d. well_refused r log v.plain d k.well));
      log = record {
        texts = subst (λ (q : Plain). AreObjectTexts q.definitions) (sym is) (refused_is (λ (q : Plain). AreObjectTexts q.definitions) e.fault e.in_write e.left v.plain k.log.texts (λ r log d. k.log.texts));
        stands = stands;
      };
    }

pub kept_restart : (tells : Type 0) (read after : LogRead) (v new : CoreValue) (result : Result Back Unreturned) → IsKept tells read v
    → MatchResult result (λ (b : Back). IsBack tells v.plain b new) (λ (e : Unreturned). Stayed tells v.plain v.faults e new) → LogStands tells after new.log new.plain → IsKept tells after new
kept_restart tells read after v new (Ok b) k m s = kept_came tells after v.plain b new m s
kept_restart tells read after v new (Err e) k m s = kept_stayed tells read after v new e m s k
