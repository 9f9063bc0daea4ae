-- Parts of a call that were done, or the write of one of them was stopped: what a manager then is.
use Rattle.std.specs.Prelude.{◌≡◌, ℕ, ◌-◌, ◌^◌, ◌<◌, ◌≤◌, true, List, [], ◌++◌, Option, Some, None, Result, Ok, Err}
use Rattle.mq_base.specs.Outside.{Rose}
use Rattle.mq_disk.specs.declared.cutter.Stop.{Stop}
use Rattle.mq_disk.specs.declared.cutter.Stop.TheVariants as stops
use Rattle.mq_calls.specs.declared.commands.Halt.{Halt}
use Rattle.mq_calls.specs.declared.commands.Halt.TheVariants as halts
use Rattle.mq_calls.specs.Words.{Reason, Part, Step, Ran, IsWrite, StopsAt, do_all, delta_of, delta_before, stopped_at, write_calls, calls_at, calls_before}
use Rattle.mq_calls.specs.declared.answers.GetAnswer.{GetAnswer}
use Rattle.mq_calls.specs.declared.deltas.Did.{Did}
use Rattle.mq_calls.specs.declared.deltas.Why.TheVariants as whys
use Rattle.mq_scan.specs.declared.scanning.Met.{Met}
use Rattle.mq_unit.specs.Told.{Telling}
use Rattle.mq_core.specs.Views.{PartsValue, plain_of}
use Rattle.mq_core.specs.Ties.{Tied, mode_is_up}
use Rattle.mq_core.specs.Values.{CoreValue, MeetsTold, AreRecords, AreRecordsTo, bodies_in, wrote_all, broke_at}
use Rattle.mq_core.specs.Forced.{HasMoreRoom}
use Rattle.mq_get.specs.declared.leaving.Leaving.{Leaving}
use Rattle.mq_get.specs.Leaving.{gone_parts, leaving_need, removes_met}
use Rattle.mq_get.specs.Rooms.{IsDropped, IsStopped}

-- what is seen of a manager's parts in a call
abbrev pub seen : PartsValue → List Did → Option Stop → CoreValue
seen x told stopped = record { plain = plain_of x; delta = told; stopped = stopped; faults = x.log.faults; log = bodies_in x.log }

pub record HasRun (parts : List Part) (v w : CoreValue) : Type 0 where
  pub plain : w.plain ≡ do_all parts v.plain
  pub told : w.delta ≡ v.delta ++ delta_of parts
  pub later : v.faults ≤ w.faults
  pub ran : Ran parts v.plain.log.armed
  pub armed : w.plain.log.armed ≡ v.plain.log.armed - write_calls parts
  pub log : w.log ≡ wrote_all parts v.log
  pub records : AreRecords parts

pub record HasBroken (by : Stop) (parts : List Part) (v w : CoreValue) : Type 0 where
  pub part : ℕ
  pub write : IsWrite part parts
  pub stop : StopsAt by (calls_at part parts) v.plain.log.armed (calls_before part parts) w.plain.log.armed
  pub plain : w.plain ≡ stopped_at part parts w.plain.log.armed v.plain
  pub told : w.delta ≡ v.delta ++ delta_before part parts
  pub later : v.faults ≤ w.faults
  pub rose : by ≡ stops.Disk → Rose v.faults w.faults
  pub log : w.log ≡ broke_at part parts v.log
  pub records : AreRecordsTo part parts

abbrev pub Does : List Part → CoreValue → Result (Unit {0}) Stop → CoreValue → Type 0
Does parts v (Ok _) w = HasRun parts v w
Does parts v (Err stop) w = HasBroken stop parts v w

-- what stopped a call
abbrev pub stop_of : {F T : Type 0} → Result T (Halt F) → Option Stop
stop_of (Ok value) = None
stop_of (Err (halts.Refused reason)) = None
stop_of (Err halts.NoMemory) = None
stop_of (Err (halts.Stopped by)) = Some by

-- of a manager that is up, in a call that told nothing yet, the expired rows that a scan met may leave by one record
pub record MayClear (queue : List ℕ) (mets : List Met) (x : PartsValue) (u : Telling) : Type 0 where
  pub tied : Tied x
  pub up : mode_is_up x.mode ≡ true
  pub told : u.dids ≡ []
  pub short : leaving_need (removes_met queue mets) < 2 ^ 32

-- a get comes to its step, and its manager's parts are tied
pub record ComesTo (step : Step Reason GetAnswer) (x : PartsValue) (result : Result GetAnswer (Halt Reason)) (y : PartsValue) (u : Telling) : Type 0 where
  pub tied : Tied y
  pub meets : MeetsTold (seen x [] None) step result (seen y u.dids (stop_of result))

-- the expired rows have left, or their write was stopped, or there was no memory; connections are the same
pub record IsCleared (queue : List ℕ) (mets : List Met) (x y : PartsValue) (u : Telling) : Type 0 where
  pub run : HasRun (gone_parts whys.Expired queue mets) (seen x [] None) (seen y u.dids None)
  pub tied : Tied y
  pub mode : y.mode ≡ x.mode
  pub desk : y.desk ≡ x.desk

pub record IsWanting (x y : PartsValue) (u : Telling) : Type 0 where
  pub room : HasMoreRoom x y
  pub untold : u.dids ≡ []

pub record IsCutOff (by : Stop) (parts : List Part) (x y : PartsValue) (u : Telling) : Type 0 where
  pub broken : HasBroken by parts (seen x [] None) (seen y u.dids (Some by))
  pub tied : Tied y

abbrev pub Halts : List Part → PartsValue → Halt Reason → PartsValue → Telling → Type 0
Halts parts x (halts.Refused reason) y u = ⊥
Halts parts x halts.NoMemory y u = IsWanting x y u
Halts parts x (halts.Stopped by) y u = IsCutOff by parts x y u

abbrev pub Clears : List ℕ → List Met → PartsValue → Result (Unit {0}) (Halt Reason) → PartsValue → Telling → Type 0
Clears queue mets x (Ok _) y u = IsCleared queue mets x y u
Clears queue mets x (Err halt) y u = Halts (gone_parts whys.Expired queue mets) x halt y u

-- the expired rows have left, and then the row that was taken
pub record AreDropped (queue : List ℕ) (gone taken : Leaving) (x : PartsValue) (t : Telling) (y : PartsValue) (u : Telling) : Type 0 where
  pub mid : PartsValue
  pub told : Telling
  pub first : IsDropped queue gone whys.Expired x t mid told
  pub then : IsDropped queue taken whys.Got mid told y u

-- the first write was stopped, or the other
pub data AreStopped (queue : List ℕ) (gone taken : Leaving) (stop : Stop) (x : PartsValue) (t : Telling) (y : PartsValue) (u : Telling) : Type 0 where
  First : IsStopped queue gone whys.Expired stop x t y u → AreStopped queue gone taken stop x t y u
  Then : (mid : PartsValue) → (told : Telling) → IsDropped queue gone whys.Expired x t mid told → IsStopped queue taken whys.Got stop mid told y u → AreStopped queue gone taken stop x t y u

abbrev pub DropsBoth : List ℕ → Leaving → Leaving → PartsValue → Telling → Result (Unit {0}) Stop → PartsValue → Telling → Type 0
DropsBoth queue gone taken x t (Ok _) y u = AreDropped queue gone taken x t y u
DropsBoth queue gone taken x t (Err stop) y u = AreStopped queue gone taken stop x t y u
