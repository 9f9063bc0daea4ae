-- A manager that is down comes up from what its log tells, whatever that is: from its own, or from one that was changed from outside.
use Rattle.std.specs.Prelude.{◌≡◌, ℕ, ◌+◌, ◌<◌, ◌^◌, max, Bool, true, false, Option, Some, None, Ok}
use Rattle.std.specs.List.{AllByRecursion}
use Rattle.mq_disk.specs.declared.cutter.Stop.{Stop}
use Rattle.mq_calls.specs.declared.commands.RestartFault.TheVariants as faults
use Rattle.mq_frame.specs.Reading.{IsBytes}
use Rattle.mq_log.specs.declared.images.Found.{Found}
use Rattle.mq_log.specs.State.{LogState, log_length}
use Rattle.mq_calls.specs.State.{Plain}
use Rattle.mq_calls.specs.Counts.{starts_of}
use Rattle.mq_calls.specs.declared.image.Image.{Image}
use Rattle.mq_calls.specs.Recovery.{IsImage, AreKnown}
use Rattle.mq_restart.specs.from_spec_log.Applies.Start.{Later}
use Rattle.mq_restart.specs.from_spec_log.Bodies.{image}
use Rattle.mq_restart.specs.from_recover.{RecoverFault}
use Rattle.mq_restart.specs.from_rebuild.{Built}
use Rattle.mq_restart.specs.from_rebuild.Rebuilt.{IsBuilt}
use Rattle.mq_restart.specs.from_core.Views.{PartsValue}
use Rattle.mq_restart.specs.declared.reading.Unraised.{Unraised}
use Rattle.mq_restart.specs.Begun.{IsUnread}
use Rattle.mq_restart.specs.Raised.{given_of, with_log, read_fault, stop_fault, HasRead, IsHalted, IsRaised, Fell}
use Rattle.mq_restart.specs.declared.reading.LogRead.{LogRead}
use Rattle.mq_restart.specs.declared.reading.LogRead.TheVariants.{Unread, Known, Foreign}
use Rattle.mq_restart.specs.Stands.{read_found}
use Rattle.mq_restarts.specs.declared.coming.Coming.{Coming}

-- the log was changed from outside
abbrev pub is_foreign : LogRead → Bool
is_foreign Unread = false
is_foreign (Known kept) = false
is_foreign Foreign = true

-- its log was read again, and all else is as it was
pub record IsReread (tells : Type 0) (x : PartsValue) (found : Found) (y : PartsValue) : Type 0 where
  pub read : HasRead tells x.log found y.log
  pub same : y ≡ with_log y.log x

-- the image that the log of a manager tells
pub record IsToldBy (x : PartsValue) (i : Image) : Type 0 where
  pub read : image (given_of x) Later x.log.bodies ≡ Ok i
  pub well : IsImage i
  pub known : AreKnown x.number i
  pub bytes : AllByRecursion IsBytes x.log.bodies

-- of a log that was changed the incarnation counts as at least the first that this history can't have begun
abbrev pub above : ℕ → Image → Image
above least i = record i { incarnation = max i.incarnation least }

-- It comes up from an image, or stays down with its log read: there was no memory, or the write of its Started record was stopped.
pub record Rises (x : PartsValue) (i : Image) (y : PartsValue) : Type 0 where
  pub built : Built
  pub is : IsBuilt i built
  pub raised : IsRaised built x y

pub record IsStopped (x : PartsValue) (i : Image) (e : Unraised) (y : PartsValue) : Type 0 where
  pub built : Built
  pub is : IsBuilt i built
  pub by : Stop
  pub fault : e.fault ≡ stop_fault by
  pub in_write : e.in_write ≡ true
  pub halted : IsHalted (given_of x) built by x.log y.log
  pub same : y ≡ with_log y.log x

pub data Halts (x : PartsValue) (i : Image) (e : Unraised) (y : PartsValue) : Type 0 where
  Wants : e.fault ≡ faults.NoMemory → e.in_write ≡ false → y.log ≡ record x.log { room = y.log.room; spare = y.log.spare } → y ≡ with_log y.log x → Halts x i e y
  Breaks : IsStopped x i e y → Halts x i e y

-- what it tells is no image, or there was no memory for one
pub record IsUnmade (found : Found) (x : PartsValue) (e : Unraised) (y : PartsValue) : Type 0 where
  pub fault : RecoverFault
  pub is : e ≡ record { fault = read_fault fault; found = Some found; in_write = false }
  pub unread : IsUnread (given_of x) Later x.log.bodies fault
  pub same : y ≡ x

pub data StaysBy (f : Image → Image) (found : Found) (x : PartsValue) (e : Unraised) (y : PartsValue) : Type 0 where
  Unmade : IsUnmade found x e y → StaysBy f found x e y
  Unstarted : (i : Image) → IsToldBy x i → e.found ≡ Some found → Halts x (f i) e y → StaysBy f found x e y

-- From its own log.
pub record ComesOwn (x y : PartsValue) : Type 0 where
  pub told : Image
  pub is : IsToldBy x told
  pub rises : Rises x told y

abbrev pub StaysOwn : Found → PartsValue → Unraised → PartsValue → Type 0
StaysOwn found x e y = StaysBy (λ i. i) found x e y

-- From one that was changed from outside; the image is handed out.
pub record ComesFar (least : ℕ) (x : PartsValue) (i : Image) (y : PartsValue) : Type 0 where
  pub told : Image
  pub is : IsToldBy x told
  pub image : i ≡ above least told
  pub rises : Rises x (above least told) y

abbrev pub StaysFar : ℕ → Found → PartsValue → Unraised → PartsValue → Type 0
StaysFar least found x e y = StaysBy (above least) found x e y

-- Whatever its log is.
abbrev pub ComesAs : LogRead → ℕ → PartsValue → Option Image → PartsValue → Type 0
ComesAs read least x None y = (is_foreign read ≡ false) × ComesOwn x y
ComesAs read least x (Some i) y = (is_foreign read ≡ true) × ComesFar least x i y

pub record ComesBack (tells : Type 0) (read : LogRead) (least : ℕ) (x : PartsValue) (c : Coming) (y : PartsValue) : Type 0 where
  pub log : LogState
  pub read_again : HasRead tells x.log c.found log
  pub long : c.length ≡ log_length log.bodies
  pub comes : ComesAs (read_found read c.found) least (with_log log x) c.image y

abbrev pub StaysAs : Bool → ℕ → Found → PartsValue → Unraised → PartsValue → Type 0
StaysAs true least found x e y = StaysFar least found x e y
StaysAs false least found x e y = StaysOwn found x e y

pub data StaysBack (tells : Type 0) (read : LogRead) (least : ℕ) (x : PartsValue) (e : Unraised) (y : PartsValue) : Type 0 where
  Unopened : Fell tells x e y → StaysBack tells read least x e y
  Reread : (found : Found) (log : LogState) → HasRead tells x.log found log → StaysAs (is_foreign (read_found read found)) least found (with_log log x) e y → StaysBack tells read least x e y

-- no restart of this history can have begun that incarnation, or one above it; and a log may still have it
pub record IsFirstAbove (least : ℕ) (p : Plain) : Type 0 where
  pub is : least ≡ p.numbers.incarnation + starts_of p.running + 1
  pub low : least + 1 < 2 ^ 61
