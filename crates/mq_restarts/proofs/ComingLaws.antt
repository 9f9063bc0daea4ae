-- A manager that came up from its own log, or stayed down, did as mq_restart says.
use Rattle.std.proofs.Common.{◌≡◌, ℕ, Bool, true, false, refl, ap, sym, subst}
use Rattle.std.specs.Prelude.{Some}
use Rattle.mq_calls.specs.declared.commands.RestartFault.TheVariants as faults
use Rattle.mq_log.specs.declared.images.Found.{Found}
use Rattle.mq_log.specs.State.{LogState}
use Rattle.mq_restart.specs.from_spec_log.Applies.Start.{Later}
use Rattle.mq_calls.specs.declared.image.Image.{Image}
use Rattle.mq_restart.specs.from_recover.RecoverFaultVariants as recovers
use Rattle.mq_restart.specs.from_rebuild.{Built}
use Rattle.mq_restart.specs.from_rebuild.Rebuilt.{IsBuilt}
use Rattle.mq_restart.specs.from_core.Views.{PartsValue}
use Rattle.mq_restart.specs.declared.reading.Unraised.{Unraised}
use Rattle.mq_restart.specs.Begun.{given_by, IsReadFrom, IsUnread, IsFresh}
use Rattle.mq_restart.specs.Raised.{given_of, with_log, HasRead, Raises, Fell}
use Rattle.mq_restart.specs.Raised.Fell.{Unread, Unstarted as WasUnstarted}
use Rattle.mq_restart.specs.Raised.HasHalted.{Halted}
use Rattle.mq_restart.specs.declared.reading.LogRead.{LogRead}
use Rattle.mq_restart.specs.Stands.{read_found}
use Rattle.mq_restarts.specs.Comings.{is_foreign, IsToldBy, IsStopped, Halts, Wants, Breaks, IsUnmade, Unmade, Unstarted, ComesOwn, StaysOwn, StaysFar, StaysAs, StaysBack, Unopened, Reread, above}

-- a log that was read again is as long as before
pub most_same : (tells : Type 0) (found : Found) (old new : LogState) → HasRead tells old found new → new.max ≡ old.max
most_same tells found old new r = ap (λ (l : LogState). l.max) r.same

pub fresh_read : (tells : Type 0) (found : Found) (old new : LogState) → HasRead tells old found new → IsFresh new.max new
fresh_read tells found old new r = record {
  live = ap (λ (l : LogState). l.live) r.same;
  settled = ap (λ (l : LogState). l.pending) r.same;
  free = ap (λ (l : LogState). l.reserved) r.same;
  most = refl;
}

-- ---- it came up from its own log

read_from : (x : PartsValue) (i : Image) (b : Built) → IsToldBy x i → IsBuilt i b → IsReadFrom (given_of x) Later x.log.bodies b
read_from x i b t is = record { told = i; read = t.read; well = t.well; known = t.known; bytes = t.bytes; built = is }

told_here : (tells : Type 0) (found : Found) (x : PartsValue) (log : LogState) (b : Built) → HasRead tells x.log found log → IsReadFrom (given_by x.number x.name log.max) Later log.bodies b → IsReadFrom (given_of x) Later log.bodies b
told_here tells found x log b r t = subst (λ (n : ℕ). IsReadFrom (given_by x.number x.name n) Later log.bodies b) (most_same tells found x.log log r) t

pub raises_own : (tells : Type 0) (found : Found) (x y : PartsValue) (log : LogState) → HasRead tells x.log found log → ComesOwn (with_log log x) y → Raises tells x found y
raises_own tells found x y log r c = record {
  log = log;
  built = c.rises.built;
  read = r;
  told = told_here tells found x log c.rises.built r (read_from (with_log log x) c.told c.rises.built c.is c.rises.is);
  raised = c.rises.raised;
}

-- ---- it stayed down

-- how far one came whose log was read, and which was refused
unread_is : (tells : Type 0) (found : Found) (x y : PartsValue) (log : LogState) (e : Unraised) → HasRead tells x.log found log → IsUnmade found (with_log log x) e y → Fell tells x e y
unread_is tells found x y log e r u = subst (λ (z : PartsValue). Fell tells x e z) (sym u.same)
    (Unread found u.fault (ap (λ (w : Unraised). w.fault) u.is) (ap (λ (w : Unraised). w.found) u.is) (ap (λ (w : Unraised). w.in_write) u.is) r
    (subst (λ (n : ℕ). IsUnread (given_by x.number x.name n) Later log.bodies u.fault) (most_same tells found x.log log r) u.unread) refl)

roomy_read : (tells : Type 0) (found : Found) (old mid new : LogState) → HasRead tells old found mid → new ≡ record mid { room = new.room; spare = new.spare } → HasRead tells old found new
roomy_read tells found old mid new r e = subst (λ (l : LogState). HasRead tells old found l) (sym e) (record {
  bodies = r.bodies;
  known = r.known;
  same = ap (λ (l : LogState). let k : LogState = record l { room = new.room; spare = new.spare } in k) r.same;
  ends = r.ends;
  one = r.one;
  later = r.later;
})

wants_is : (tells : Type 0) (found : Found) (x y : PartsValue) (log : LogState) (e : Unraised) → HasRead tells x.log found log → e.found ≡ Some found → e.fault ≡ faults.NoMemory → e.in_write ≡ false → y.log ≡ record log { room = y.log.room; spare = y.log.spare } → y ≡ with_log y.log (with_log log x) → Fell tells x e y
wants_is tells found x y log e r was fault out room same = Unread found recovers.NoMemory fault was out (roomy_read tells found x.log log y.log r room) tt same

-- an image from which it didn't come up: there was no memory, or its write was stopped
pub halts_own : (tells : Type 0) (found : Found) (x y : PartsValue) (log : LogState) (i : Image) (e : Unraised) → HasRead tells x.log found log → IsToldBy (with_log log x) i → e.found ≡ Some found → Halts (with_log log x) i e y → Fell tells x e y
halts_own tells found x y log i e r t was (Wants fault out room same) = wants_is tells found x y log e r was fault out room same
halts_own tells found x y log i e r t was (Breaks h) =
    WasUnstarted found log h.built was r (told_here tells found x log h.built r (read_from (with_log log x) i h.built t h.is))
    (record { same = h.same; halted = Halted h.by h.fault h.in_write h.halted })

pub stays_own : (tells : Type 0) (found : Found) (x y : PartsValue) (log : LogState) (e : Unraised) → HasRead tells x.log found log → StaysOwn found (with_log log x) e y → Fell tells x e y
stays_own tells found x y log e r (Unmade u) = unread_is tells found x y log e r u
stays_own tells found x y log e r (Unstarted i t was h) = halts_own tells found x y log i e r t was h

-- Of a log that was changed from outside: as mq_restart says, or the write of its Started record was stopped.
pub record FellFar (tells : Type 0) (read : LogRead) (x : PartsValue) (e : Unraised) (y : PartsValue) : Type 0 where
  pub found : Found
  pub was : e.found ≡ Some found
  pub foreign : is_foreign (read_found read found) ≡ true
  pub log : LogState
  pub read_again : HasRead tells x.log found log
  pub image : Image
  pub stopped : IsStopped (with_log log x) image e y

pub data FellBack (tells : Type 0) (read : LogRead) (x : PartsValue) (e : Unraised) (y : PartsValue) : Type 0 where
  Near : Fell tells x e y → FellBack tells read x e y
  Far : FellFar tells read x e y → FellBack tells read x e y

halts_far : (tells : Type 0) (read : LogRead) (found : Found) (x y : PartsValue) (log : LogState) (i : Image) (e : Unraised) → is_foreign (read_found read found) ≡ true → HasRead tells x.log found log → e.found ≡ Some found → Halts (with_log log x) i e y → FellBack tells read x e y
halts_far tells read found x y log i e f r was (Wants fault out room same) = Near (wants_is tells found x y log e r was fault out room same)
halts_far tells read found x y log i e f r was (Breaks h) = Far (record { found = found; was = was; foreign = f; log = log; read_again = r; image = i; stopped = h })

stays_far : (tells : Type 0) (read : LogRead) (least : ℕ) (found : Found) (x y : PartsValue) (log : LogState) (e : Unraised) → is_foreign (read_found read found) ≡ true → HasRead tells x.log found log → StaysFar least found (with_log log x) e y → FellBack tells read x e y
stays_far tells read least found x y log e f r (Unmade u) = Near (unread_is tells found x y log e r u)
stays_far tells read least found x y log e f r (Unstarted i t was h) = halts_far tells read found x y log (above least i) e f r was h

pub fell_back : (tells : Type 0) (read : LogRead) (least : ℕ) (x y : PartsValue) (e : Unraised) → StaysBack tells read least x e y → FellBack tells read x e y
fell_back tells read least x y e (Unopened fell) = Near fell
fell_back tells read least x y e (Reread found log r stays) = by (is_foreign (read_found read found)) refl stays
  where
    by : (b : Bool) → is_foreign (read_found read found) ≡ b → StaysAs b least found (with_log log x) e y → FellBack tells read x e y
    by true f s = stays_far tells read least found x y log e f r s
    by false f s = Near (stays_own tells found x y log e r s)
