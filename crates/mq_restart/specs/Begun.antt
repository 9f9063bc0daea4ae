-- A manager that comes up from the image of its log, and its first start.
use Rattle.std.specs.Prelude.{◌≡◌, ◌⊎◌, ℕ, ◌+◌, ◌≤◌, List, [], ◌∷◌, ◌++◌, true, Option, Some, None, Ok, Err}
use Rattle.std.specs.List.{AllByRecursion}
use Rattle.mq_base.specs.Outside.{Rose}
use Rattle.mq_frame.specs.Reading.{IsBytes}
use Rattle.mq_log.specs.Bodies.{IsLog, IsNoLog}
use Rattle.mq_log.specs.Open.{Reads}
use Rattle.mq_log.specs.State.{LogState, log_length, IsLogOf}
use Rattle.mq_log.specs.declared.open.StartFault.{StartFault}
use Rattle.mq_log.specs.declared.open.StartFault.TheVariants as starts
use Rattle.mq_calls.specs.declared.commands.BeginFault.{BeginFault}
use Rattle.mq_calls.specs.declared.commands.BeginFault.TheVariants as faults
use Rattle.mq_calls.specs.State.{Given}
use Rattle.mq_calls.specs.declared.image.Image.{Image}
use Rattle.mq_calls.specs.Recovery.{IsImage, AreKnown}
use Rattle.mq_spec_manager.specs.Stops.{first_start, started_record, started_need}
use Rattle.mq_log.specs.Force.{Stops}
use Rattle.mq_spec_log.specs.Applies.{Start}
use Rattle.mq_spec_log.specs.Applies.Start.{First, Later}
use Rattle.mq_law_image.specs.Tells.{Tells}
use Rattle.mq_spec_log.specs.Bodies.{image}
use Rattle.mq_record.specs.Records.{record_bytes, IsRecord}
use Rattle.mq_recover.specs.declared.recovery.RecoverFault.{RecoverFault}
use Rattle.mq_recover.specs.declared.recovery.RecoverFault.TheVariants.{BadRecord, NoMemory}
use Rattle.mq_rebuild.specs.declared.building.Built.{Built}
use Rattle.mq_rebuild.specs.Rebuilt.{IsBuilt}
use Rattle.mq_redo.specs.from_core.ModeVariants as modes
use Rattle.mq_redo.specs.from_core.Values.{CoreValue, bodies_in}
use Rattle.mq_redo.specs.from_core.Views.{PartsValue, plain_of}
use Rattle.mq_redo.specs.from_core.Ties.{ends_need}
use Rattle.mq_redo.specs.from_core.{ChannelEnds}

abbrev pub given_by : ℕ → List ℕ → ℕ → Given
given_by number name max = record { number = number; name = name; log_max = max }

-- what was built of a log's bodies is what their image tells
pub record IsReadFrom (g : Given) (start : Start) (bodies : List (List ℕ)) (b : Built) : Type 0 where
  pub told : Image
  pub read : image g start bodies ≡ Ok told
  pub well : IsImage told
  pub known : AreKnown g.number told
  pub bytes : AllByRecursion IsBytes bodies
  pub built : IsBuilt told b

-- why nothing was
abbrev pub IsUnread : Given → Start → List (List ℕ) → RecoverFault → Type 0
IsUnread g start bodies (BadRecord place) = image g start bodies ≡ Err place
IsUnread g start bodies NoMemory = Unit {0}

-- what channel ends have of a manager that was built: what was hardened, and nothing that runs
abbrev pub begun_ends : Built → ChannelEnds
begun_ends b = record { senders = b.senders; receivers = b.receivers; seizures = []; batches = []; bound = b.bound; rows = b.rows }

-- the parts of a manager that was built and is up, and how it is seen
abbrev pub begun_parts : ℕ → List ℕ → ℕ → Built → LogState → PartsValue
begun_parts number name moment b log = record {
  number = number;
  name = name;
  mode = modes.Up;
  defs = b.defs;
  queues = b.queues;
  desk = record { live = []; last = 0 };
  ends = begun_ends b;
  moment = moment;
  incarnation = b.incarnation + 1;
  idents = 0;
  log = log;
  body = record { bytes = []; room = 0 };
}

abbrev pub begun_core : ℕ → List ℕ → ℕ → Built → LogState → CoreValue
begun_core number name moment b log = record { plain = plain_of (begun_parts number name moment b log); delta = []; stopped = None; faults = log.faults; log = bodies_in log }

-- a log that was just read; and no call of it is to be stopped
pub record IsFresh (max : ℕ) (log : LogState) : Type 0 where
  pub live : log.live ≡ true
  pub settled : log.pending ≡ None
  pub free : log.reserved ≡ 0
  pub most : log.max ≡ max

pub record IsOpened (max : ℕ) (log : LogState) : Type 0 where
  pub fresh : IsFresh max log
  pub armed : log.armed ≡ 0

abbrev pub begin_fault : StartFault → BeginFault
begin_fault starts.Disk = faults.Disk
begin_fault starts.Cut = faults.Disk
begin_fault (starts.BadLog place) = faults.BadLog place
begin_fault starts.NoMemory = faults.NoMemory

-- of which these are the bodies, where the disk tells them
pub record HasOpened (tells : Type 0) (seen : List ℕ) (old max : ℕ) (log : LogState) : Type 0 where
  pub opened : IsOpened max log
  pub read : tells → IsLog seen log.bodies
  pub later : old ≤ log.faults

-- the Started record of what was built stands behind the bodies, and what its channel ends need is set aside
pub record IsStarted (g : Given) (b : Built) (old new : LogState) : Type 0 where
  pub is : IsRecord (started_record g (b.incarnation + 1))
  pub fresh : IsFresh old.max new
  pub bodies : new.bodies ≡ old.bodies ++ record_bytes (started_record g (b.incarnation + 1)) ∷ []
  pub long : log_length new.bodies ≡ log_length old.bodies + started_need g
  pub ends : Stops old.armed (Ok tt) new.armed
  pub later : old.faults ≤ new.faults
  pub aside : ends_need (begun_ends b) ≤ new.spare

-- A first start: the manager is that of the image that its log told, with its own Started record behind it; and that log tells what
-- lasts of it.
pub record HasBegun (tells : Type 0) (seen : List ℕ) (old : ℕ) (g : Given) (moment : ℕ) (core : CoreValue) : Type 0 where
  pub bodies : List (List ℕ)
  pub told : Image
  pub of_disk : tells → IsLog seen bodies
  pub read : image g First bodies ≡ Ok told
  pub well : IsImage told
  pub known : AreKnown g.number told
  pub bytes : AllByRecursion IsBytes bodies
  pub plain : core.plain ≡ first_start g told (log_length bodies) moment
  pub untold : core.delta ≡ []
  pub unstopped : core.stopped ≡ None
  pub log : core.log ≡ record { bodies = bodies ++ record_bytes (started_record g (told.incarnation + 1)) ∷ []; pending = None }
  pub log_tells : Tells Later core.log.bodies core.plain
  pub long : core.plain.log.length ≡ log_length core.log.bodies
  pub later : old ≤ core.faults

-- from this log, whatever disk it was read from
abbrev pub BeginsFrom : Type 0 → LogState → Given → ℕ → CoreValue → Type 0
BeginsFrom tells log g moment core = (seen : List ℕ) (old : ℕ) → (tells → IsLog seen log.bodies) → old ≤ log.faults → HasBegun tells seen old g moment core

-- the bytes are no log of this manager, at this place
abbrev pub IsUntold : Given → List ℕ → ℕ → Type 0
IsUntold g seen place = (bodies : List (List ℕ)) × IsLog seen bodies × (image g First bodies ≡ Err place)

abbrev pub IsBadOf : Given → List ℕ → BeginFault → Type 0
IsBadOf g seen faults.Disk = Unit {0}
IsBadOf g seen (faults.BadLog place) = IsNoLog seen place ⊎ IsUntold g seen place
IsBadOf g seen faults.NoMemory = Unit {0}

-- why it has not begun: bad bytes where the disk tells them, and the disk only where its count rose
pub record HasNotBegun (tells : Type 0) (seen : List ℕ) (g : Given) (old : ℕ) (fault : BeginFault) (new : ℕ) : Type 0 where
  pub bad : tells → IsBadOf g seen fault
  pub later : old ≤ new
  pub rose : fault ≡ faults.Disk → Rose old new

-- the record whose forced write was stopped, if one was: the Started record of what this log tells
abbrev pub IsStartOf : Given → List (List ℕ) → BeginFault → Option (List ℕ) → Type 0
IsStartOf g bodies fault None = Unit {0}
IsStartOf g bodies fault (Some body) = (fault ≡ faults.Disk) × (told : Image) × (image g First bodies ≡ Ok told) × (body ≡ record_bytes (started_record g (told.incarnation + 1)))

-- a crash may leave this log, or, where the write of the Started record was stopped, this log with that record behind it
pub record LeavesLog (g : Given) (bodies : List (List ℕ)) (fault : BeginFault) (leaves : List ℕ → Type 0) : Type 0 where
  pub pending : Option (List ℕ)
  pub start : IsStartOf g bodies fault pending
  pub left : (c : List ℕ) → leaves c → IsLogOf bodies pending c

-- what a crash may leave of the disk of a manager that has not begun: what it might have left before, or the log that stood there
abbrev pub LeavesAsWas : (List ℕ → Type 0) → List ℕ → Given → BeginFault → (List ℕ → Type 0) → Type 0
LeavesAsWas before seen g fault after = Reads before after ⊎ ((bodies : List (List ℕ)) × IsLog seen bodies × LeavesLog g bodies fault after)

abbrev pub recovered_fault : RecoverFault → BeginFault
recovered_fault (BadRecord place) = faults.BadLog place
recovered_fault NoMemory = faults.NoMemory
