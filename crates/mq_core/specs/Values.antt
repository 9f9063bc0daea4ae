-- What is seen of a manager whose calls are at work: the plain manager, what its last call did, and what its log tells;
-- and what a call writes to the log, part by part.
use Rattle.std.specs.Prelude.{◌≡◌, ℕ, zero, suc, List, [], ◌∷◌, ◌++◌, Option, Some, None, Result, Ok, Err}
use Rattle.mq_disk.specs.declared.cutter.Stop.{Stop}
use Rattle.mq_calls.specs.declared.commands.Halt.TheVariants as halts
use Rattle.mq_calls.specs.Words.{ManagerValue, Part, Plain, Step, Refuse, Do, IsWrite, Meets, stopped_at}
use Rattle.mq_calls.specs.declared.deltas.Did.{Did}
use Rattle.mq_calls.specs.declared.commands.Halt.{Halt}
use Rattle.mq_calls.specs.declared.records.LogRecord.{LogRecord}
use Rattle.mq_log.specs.State.{LogState}
use Rattle.mq_sides.specs.from_record.Records.{record_bytes}
use Rattle.mq_core.specs.Writes.{FitsRecord}

-- the bodies of the log, and the body whose forced write was stopped
pub record LogBodies : Type 0 where
  pub bodies : List (List ℕ)
  pub pending : Option (List ℕ)

-- a manager's value (`ManagerValue` of mq_calls), with its log's bodies
pub record CoreValue : Type 0 where
  pub plain : Plain
  pub delta : List Did
  pub stopped : Option Stop
  pub faults : ℕ
  pub log : LogBodies

-- without its log
abbrev pub manager_of : CoreValue → ManagerValue
manager_of v = record { plain = v.plain; delta = v.delta; stopped = v.stopped; faults = v.faults }

abbrev pub bodies_in : LogState → LogBodies
bodies_in log = record { bodies = log.bodies; pending = log.pending }

-- a call that did nothing
abbrev pub begun_call : CoreValue → CoreValue
begun_call v = record v { delta = []; stopped = None }

-- A record is forced behind the bodies; its write is stopped. A part that forces none leaves the log.
abbrev pub behind_record : Option LogRecord → LogBodies → LogBodies
behind_record None log = log
behind_record (Some r) log = record log { bodies = log.bodies ++ record_bytes r ∷ [] }

abbrev pub pending_record : Option LogRecord → LogBodies → LogBodies
pending_record None log = log
pending_record (Some r) log = record log { pending = Some (record_bytes r) }

-- the records of all parts, one behind the other
abbrev pub wrote_all : List Part → LogBodies → LogBodies
wrote_all [] log = log
wrote_all (part ∷ parts) log = wrote_all parts (behind_record part.forced log)

-- those in front of the part of that number, whose own is pending
abbrev pub broke_at : ℕ → List Part → LogBodies → LogBodies
broke_at n [] log = log
broke_at zero (part ∷ parts) log = pending_record part.forced log
broke_at (suc n) (part ∷ parts) log = broke_at n parts (behind_record part.forced log)

-- the fields of what is written fit its record
abbrev pub IsRecordIn : Option LogRecord → Type 0
IsRecordIn None = Unit {0}
IsRecordIn (Some r) = FitsRecord r

-- of all parts
abbrev pub AreRecords : List Part → Type 0
AreRecords [] = Unit {0}
AreRecords (part ∷ parts) = IsRecordIn part.forced × AreRecords parts

-- of those in front of the part of that number, and of that part
abbrev pub AreRecordsTo : ℕ → List Part → Type 0
AreRecordsTo n [] = Unit {0}
AreRecordsTo zero (part ∷ parts) = IsRecordIn part.forced
AreRecordsTo (suc n) (part ∷ parts) = IsRecordIn part.forced × AreRecordsTo n parts

-- the write of one part was stopped: so in the plain manager, and so in the log
pub record BreaksOff (parts : List Part) (old new : CoreValue) : Type 0 where
  pub part : ℕ
  pub write : IsWrite part parts
  pub records : AreRecordsTo part parts
  pub plain : new.plain ≡ stopped_at part parts new.plain.log.armed old.plain
  pub log : new.log ≡ broke_at part parts old.log

-- What a call writes: nothing where it is refused or finds no memory; all records of its parts; or up to the stopped one. Each is
-- read from its bytes.
abbrev pub WritesLog : {F T : Type 0} → CoreValue → Step F T → Result T (Halt F) → CoreValue → Type 0
WritesLog old (Refuse reason) result new = new.log ≡ old.log
WritesLog old (Do reply parts) (Ok value) new = (new.log ≡ wrote_all parts old.log) × AreRecords parts
WritesLog old (Do reply parts) (Err (halts.Refused reason)) new = new.log ≡ old.log
WritesLog old (Do reply parts) (Err halts.NoMemory) new = new.log ≡ old.log
WritesLog old (Do reply parts) (Err (halts.Stopped by)) new = BreaksOff parts old new

-- both: what an MQI call comes to, and what it writes
pub record MeetsTold {F T : Type 0} (old : CoreValue) (step : Step F T) (result : Result T (Halt F)) (new : CoreValue) : Type 0 where
  pub meets : Meets (manager_of old) step result (manager_of new)
  pub told : WritesLog old step result new
