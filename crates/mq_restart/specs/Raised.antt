-- A manager that is down reads its log again, and comes up from it or not.
use Rattle.std.specs.Prelude.{◌≡◌, ◌≢◌, ℕ, ◌+◌, ◌-◌, ◌<◌, ◌≤◌, Bool, true, false, length, Option, Some, None, Ok, Err}
use Rattle.mq_base.specs.Outside.{Rose}
use Rattle.mq_disk.specs.declared.cutter.Stop.{Stop}
use Rattle.mq_disk.specs.declared.cutter.Stop.TheVariants as stops
use Rattle.mq_calls.specs.declared.commands.RestartFault.{RestartFault}
use Rattle.mq_calls.specs.declared.commands.RestartFault.TheVariants as faults
use Rattle.mq_log.specs.declared.open.StartFault.{StartFault}
use Rattle.mq_log.specs.declared.open.StartFault.TheVariants as opens
use Rattle.mq_log.specs.declared.images.Found.{Found}
use Rattle.mq_log.specs.declared.images.Found.TheVariants.{Other}
use Rattle.mq_log.specs.State.{LogState}
use Rattle.mq_log.specs.Images.{IsFound}
use Rattle.mq_log.specs.Open.{EndsByOneOrThree, RestartEnds, IsNotBad}
use Rattle.mq_log.specs.Force.{Stops}
use Rattle.mq_record.specs.Records.{record_bytes, IsRecord}
use Rattle.mq_calls.specs.State.{Given, Noted}
use Rattle.mq_spec_manager.specs.Stops.{started_record, CanBeKept, restarted, calls_of_restart}
use Rattle.mq_spec_log.specs.Applies.Start.{Later}
use Rattle.mq_recover.specs.declared.recovery.RecoverFault.{RecoverFault}
use Rattle.mq_recover.specs.declared.recovery.RecoverFault.TheVariants.{BadRecord, NoMemory}
use Rattle.mq_rebuild.specs.declared.building.Built.{Built}
use Rattle.mq_calls.specs.declared.choices.Return.{Return}
use Rattle.mq_calls.specs.declared.choices.Return.TheVariants.{Fails}
use Rattle.mq_redo.specs.from_core.{ReadLog}
use Rattle.mq_restart.specs.Tells.{kept_of}
use Rattle.mq_redo.specs.from_core.Views.{PartsValue, plain_of}
use Rattle.mq_redo.specs.from_core.Ties.{Tied}
use Rattle.mq_restart.specs.declared.reading.Unraised.{Unraised}
use Rattle.mq_restart.specs.Begun.{given_by, begun_parts, IsReadFrom, IsUnread, IsStarted}

abbrev pub given_of : PartsValue → Given
given_of x = given_by x.number x.name x.log.max

-- the parts of a manager that was built, in place of those that were
abbrev pub raised_parts : Built → PartsValue → PartsValue
raised_parts b x = record (begun_parts x.number x.name x.moment b x.log) { body = x.body }

abbrev pub start_fault : StartFault → RestartFault
start_fault opens.Disk = faults.Disk
start_fault opens.Cut = faults.Cut
start_fault (opens.BadLog place) = faults.BadLog place
start_fault opens.NoMemory = faults.NoMemory

abbrev pub read_fault : RecoverFault → RestartFault
read_fault (BadRecord place) = faults.BadLog place
read_fault NoMemory = faults.NoMemory

abbrev pub stop_fault : Stop → RestartFault
stop_fault stops.Cut = faults.Cut
stop_fault stops.Disk = faults.Disk

-- the log was read again, and memory may have been set aside; one call counted where it has a body, else three
pub record HasRead (tells : Type 0) (old : LogState) (found : Found) (new : LogState) : Type 0 where
  pub bodies : IsFound old.bodies old.pending found new.bodies
  pub known : tells → found ≢ Other
  pub same : new ≡ record old { bodies = new.bodies; live = true; pending = None; reserved = 0; room = new.room; spare = new.spare; armed = new.armed; faults = new.faults }
  pub ends : EndsByOneOrThree {T = Found} old.armed (Ok found) new.armed
  pub one : 0 < length new.bodies → (new.armed ≡ old.armed - 1) × (0 < old.armed → 1 < old.armed)
  pub later : old.faults ≤ new.faults

-- the log was not read: the bodies are those that were known
pub record HasNotRead (tells : Type 0) (old : LogState) (fault : StartFault) (new : LogState) : Type 0 where
  pub same : new ≡ record old { live = false; room = new.room; armed = new.armed; faults = new.faults }
  pub good : tells → IsNotBad fault
  pub ends : EndsByOneOrThree {T = Found} old.armed (Err fault) new.armed
  pub told : tells → 0 < length old.bodies → RestartEnds {T = Found} 1 old.armed (Err fault) new.armed
  pub later : old.faults ≤ new.faults
  pub disk : fault ≡ opens.Disk → Rose old.faults new.faults

-- the write of the Started record of what was built was stopped
pub record IsHalted (g : Given) (b : Built) (by : Stop) (old new : LogState) : Type 0 where
  pub is : IsRecord (started_record g (b.incarnation + 1))
  pub long : length (record_bytes (started_record g (b.incarnation + 1))) ≡ 58
  pub log : new ≡ record old { live = false; pending = Some (record_bytes (started_record g (b.incarnation + 1))); room = new.room; spare = new.spare; armed = new.armed; faults = new.faults }
  pub ends : Stops old.armed (Err by) new.armed
  pub later : old.faults ≤ new.faults
  pub disk : by ≡ stops.Disk → Rose old.faults new.faults

-- all but the log is as it was
abbrev pub with_log : LogState → PartsValue → PartsValue
with_log log x = record x { log = log }

-- its Started record stands, and it is up
pub record IsRaised (b : Built) (x y : PartsValue) : Type 0 where
  pub started : IsStarted (given_of x) b x.log y.log
  pub becomes : y ≡ raised_parts b (with_log y.log x)

-- or not: there was no memory, or its write was stopped
pub data HasHalted (g : Given) (b : Built) (old : LogState) (e : Unraised) (new : LogState) : Type 0 where
  Wanting : e.fault ≡ faults.NoMemory → e.in_write ≡ false → new ≡ record old { room = new.room; spare = new.spare } → HasHalted g b old e new
  Halted : (by : Stop) → e.fault ≡ stop_fault by → e.in_write ≡ true → IsHalted g b by old new → HasHalted g b old e new

pub record IsUnraised (b : Built) (x : PartsValue) (e : Unraised) (y : PartsValue) : Type 0 where
  pub same : y ≡ with_log y.log x
  pub halted : HasHalted (given_of x) b x.log e y.log

-- it comes up: its log was read, it was built from it, and its Started record stands behind the bodies
pub record Raises (tells : Type 0) (x : PartsValue) (found : Found) (y : PartsValue) : Type 0 where
  pub log : LogState
  pub built : Built
  pub read : HasRead tells x.log found log
  pub told : IsReadFrom (given_of x) Later log.bodies built
  pub raised : IsRaised built (with_log log x) y

-- it doesn't, by how far it came
pub data Fell (tells : Type 0) (x : PartsValue) (e : Unraised) (y : PartsValue) : Type 0 where
  Unopened : (fault : StartFault) → e.fault ≡ start_fault fault → e.found ≡ None → e.in_write ≡ false → HasNotRead tells x.log fault y.log → y ≡ with_log y.log x → Fell tells x e y
  Unread : (found : Found) (fault : RecoverFault) → e.fault ≡ read_fault fault → e.found ≡ Some found → e.in_write ≡ false → HasRead tells x.log found y.log → IsUnread (given_of x) Later y.log.bodies fault → y ≡ with_log y.log x → Fell tells x e y
  Unstarted : (found : Found) (log : LogState) (built : Built) → e.found ≡ Some found → HasRead tells x.log found log → IsReadFrom (given_of x) Later log.bodies built → IsUnraised built (with_log log x) e y → Fell tells x e y

-- It comes up as its history says: the noted write was found or not, behind so many Started records of restarts that were stopped.
pub record ComesUp (kept : Bool) (noted : Option Noted) (starts : ℕ) (x y : PartsValue) : Type 0 where
  pub started : ℕ
  pub can : CanBeKept kept noted
  pub few : started ≤ starts
  pub plain : plain_of y ≡ restarted kept started noted (plain_of x)
  pub tied : Tied y
  pub calls : 0 < x.log.armed → calls_of_restart < x.log.armed
  pub number : y.incarnation ≡ x.incarnation + started + 1

-- what is known of the log behind a restart that was refused: where it read the log, what it found, and how long the log was at the stop
abbrev pub read_by : Option ReadLog → Found → ℕ → ReadLog
read_by None found long = record { kept = kept_of None found; length = long }
read_by (Some read) found long = read

abbrev pub read_after : Option ReadLog → Option Found → ℕ → Option ReadLog
read_after read None long = read
read_after read (Some found) long = Some (read_by read found long)

-- one Started record more was stopped, or none
abbrev pub starts_after : Bool → ℕ → ℕ
starts_after true starts = starts + 1
starts_after false starts = starts

-- a restart that is refused, as the manager's history says it
abbrev pub fails_as : Unraised → ℕ → Return
fails_as e left = Fails e.fault e.in_write left
