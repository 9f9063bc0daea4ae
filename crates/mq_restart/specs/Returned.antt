-- How a restart ends.
use Rattle.std.specs.Prelude.{◌≡◌, ℕ, ◌+◌, ◌-◌, ◌≤◌, false, List, [], ◌∷◌, ◌++◌, None, Ok}
use Rattle.mq_base.specs.Outside.{Rose}
use Rattle.mq_calls.specs.declared.choices.Return.{Return}
use Rattle.mq_calls.specs.declared.choices.Return.TheVariants.{Comes, Fails}
use Rattle.mq_calls.specs.declared.commands.RestartFault.{RestartFault}
use Rattle.mq_calls.specs.declared.commands.RestartFault.TheVariants as causes
use Rattle.mq_log.specs.State.{log_length}
use Rattle.mq_record.specs.Records.{record_bytes}
use Rattle.mq_calls.specs.State.{LogState, Plain, Running}
use Rattle.mq_calls.specs.State.Running.{Up, Down}
use Rattle.mq_calls.specs.Images.{begun, raised}
use Rattle.mq_calls.specs.declared.image.Image.{Image}
use Rattle.mq_calls.specs.Recovery.{IsImage, AreKnown}
use Rattle.mq_spec_manager.specs.Stops.{restart, started_record, started_need, calls_of_restart, CanReturn, CanReturnTold, Spent}
use Rattle.mq_spec_log.specs.Applies.Start.{Later}
use Rattle.mq_spec_log.specs.Bodies.{image}
use Rattle.mq_law_image.specs.Values.{AreObjectTexts}
use Rattle.mq_redo.specs.from_core.Values.{CoreValue}
use Rattle.mq_restart.specs.declared.reading.LogRead.{LogRead}
use Rattle.mq_restart.specs.declared.reading.LogRead.TheVariants as reads
use Rattle.mq_restart.specs.declared.reading.Returned.{Returned}
use Rattle.mq_restart.specs.declared.reading.Returned.TheVariants.{Own, Foreign}
use Rattle.mq_restart.specs.declared.reading.Unreturned.{Unreturned}

-- by what was read, and by the incarnations before and behind it
abbrev pub returned_as : LogRead → ℕ → ℕ → Returned
returned_as reads.Unread before now = Foreign
returned_as (reads.Known kept) before now = Own kept (now - before - 1)
returned_as reads.Foreign before now = Foreign

-- which ends there are: of a manager that is up, and of one that is down
abbrev pub CanEnd : Type 0 → Return → Running → Plain → Type 0
CanEnd tells choice Up p = choice ≡ Fails causes.Up false p.log.armed
CanEnd tells choice (Down noted starts) p = CanReturn choice noted starts p.log.armed × (tells → CanReturnTold choice noted starts p.log.armed)

-- As the plain manager's restart does under this choice: its next state and its delta.
pub record Ends (tells : Type 0) (choice : Return) (p : Plain) (new : CoreValue) : Type 0 where
  pub can : CanEnd tells choice p.running p
  pub plain : new.plain ≡ (restart choice p).next
  pub delta : new.delta ≡ (restart choice p).delta

-- it is that of the image of a log
pub record IsOfImage (p : Plain) : Type 0 where
  pub told : Image
  pub log : LogState
  pub well : IsImage told
  pub known : AreKnown p.given.number told
  pub texts : AreObjectTexts told.definitions
  pub plain : p ≡ begun p.given (raised 0 told) log p.moment

-- It came up from other bytes than its history allows: from their image, with its own Started record behind them.
pub record ComesForeign (tells : Type 0) (p : Plain) (new : CoreValue) : Type 0 where
  pub untold : tells → ⊥
  pub bodies : List (List ℕ)
  pub told : Image
  pub read : image p.given Later bodies ≡ Ok told
  pub plain : new.plain ≡ begun p.given (raised 0 told) (record { length = log_length bodies + started_need p.given; armed = new.plain.log.armed }) p.moment
  pub log : new.log ≡ record { bodies = bodies ++ record_bytes (started_record p.given (told.incarnation + 1)) ∷ []; pending = None }
  pub delta : new.delta ≡ []
  pub calls : Spent calls_of_restart 7 p.log.armed new.plain.log.armed

abbrev pub CameUpAs : Type 0 → Plain → Returned → CoreValue → Type 0
CameUpAs tells p (Own kept started) new = Ends tells (Comes kept started) p new
CameUpAs tells p Foreign new = ComesForeign tells p new

pub record CameUp (tells : Type 0) (p : Plain) (r : Returned) (new : CoreValue) : Type 0 where
  pub ends : CameUpAs tells p r new
  pub image : IsOfImage new.plain

-- over a disk that tells its bytes no log is bad
abbrev pub IsNotBad : RestartFault → Type 0
IsNotBad (causes.BadLog place) = ⊥
IsNotBad causes.Up = Unit {0}
IsNotBad causes.Disk = Unit {0}
IsNotBad causes.Cut = Unit {0}
IsNotBad causes.NoMemory = Unit {0}

abbrev pub fails_as : Unreturned → Return
fails_as e = Fails e.fault e.in_write e.left

-- It was refused; the disk is to blame only where its count rose.
pub record Stayed (tells : Type 0) (p : Plain) (faults : ℕ) (e : Unreturned) (new : CoreValue) : Type 0 where
  pub ends : Ends tells (fails_as e) p new
  pub good : tells → IsNotBad e.fault
  pub disk : e.fault ≡ causes.Disk → Rose faults new.faults

-- what it leaves beside: nothing stopped it as a call, and its disk has failed no less often
pub record Passes (old new : CoreValue) : Type 0 where
  pub unstopped : new.stopped ≡ None
  pub later : old.faults ≤ new.faults
