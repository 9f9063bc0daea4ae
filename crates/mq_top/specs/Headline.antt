-- What a call of the program promises.
use Rattle.std.specs.Prelude.{◌≡◌, ◌⊎◌, ℕ, ◌≤◌, List, [], length, Option, Some, None, Ok, Err, codes}
use Rattle.std.specs.Io.KnownBytes.{Appends, Keeps}
use Rattle.mq_base.specs.Outside.{Rose, Told, IsLonger}
use Rattle.mq_history.specs.declared.scenario.Scenario.{Scenario}
use Rattle.mq_scn_text.specs.declared.fault.ScenarioFault.{ScenarioFault}
use Rattle.mq_scn_text.specs.Reading.{scenario_of}
use Rattle.mq_run.specs.from_soak.Soak.{soak}
use Rattle.mq_run.specs.declared.reporting.Form.TheVariants as forms
use Rattle.mq_run.specs.declared.status.BadCause.{BadCause}
use Rattle.mq_run.specs.declared.status.Status.{Status}
use Rattle.mq_run.specs.declared.status.Status.TheVariants as status
use Rattle.mq_run.specs.Ends.{RunEnds, WroteFront}
use Rattle.mq_run.specs.Words.{Left}
use Rattle.mq_top.specs.declared.top.Purpose.{Purpose}
use Rattle.mq_top.specs.declared.top.Purpose.TheVariants as purposes
use Rattle.mq_top.specs.declared.top.Task.{Task}
use Rattle.mq_top.specs.declared.top.Task.TheVariants as tasks
use Rattle.mq_top.specs.Wanted.{fault_status, wanted}

-- these bytes were read: all that the source had, where it tells
abbrev pub WasRead : Option (List ℕ) → List ℕ → Type 0
WasRead left bytes = Told left bytes × (length bytes ≤ 1048576)

-- the bytes that were read are the text of this scenario
pub record IsRead (left : Option (List ℕ)) (s : Scenario) : Type 0 where
  pub bytes : List ℕ
  pub read : WasRead left bytes
  pub text : scenario_of bytes ≡ Ok s

-- bytes were read whose first line that can't stand in a scenario is this, for that cause
pub record ReadNoScenario (left : Option (List ℕ)) (line : ℕ) (cause : BadCause) : Type 0 where
  pub bytes : List ℕ
  pub read : WasRead left bytes
  pub fault : ScenarioFault
  pub text : scenario_of bytes ≡ Err fault
  pub told : fault_status fault ≡ status.BadScenario line cause

-- what check writes
abbrev pub check_text : List ℕ
check_text = codes "CHECK OK\n"

-- Nothing ran and nothing was written, for one of these.
abbrev pub IsEarly : Status → Type 0
IsEarly (status.BadScenario line cause) = Unit {0}
IsEarly status.ReadFault = Unit {0}
IsEarly status.TooLong = Unit {0}
IsEarly status.NoMemory = Unit {0}
IsEarly st = ⊥

pub record Nothing (old new : Option (List ℕ)) (net : Option Left) (counts : List ℕ) : Type 0 where
  pub network : net ≡ None
  pub disks : counts ≡ []
  pub kept : Keeps old new

-- A scenario was read, and its run ended so.
pub record RanScenario (left : Option (List ℕ)) (tells : Type 0) (held : List ℕ → List ℕ → Type 0) (start before now : ℕ) (old new : Option (List ℕ)) (st : Status) (net : Option Left) (counts : List ℕ) : Type 0 where
  pub scenario : Scenario
  pub read : IsRead left scenario
  pub ended : RunEnds forms.Report tells held start scenario before now old new st net counts

-- Of check, by status.
abbrev pub Checked : Option (List ℕ) → Option (List ℕ) → Option (List ℕ) → Status → Type 0
Checked left old new status.Ok = (s : Scenario) × IsRead left s × Appends old new check_text
Checked left old new (status.WriteFault n) = (s : Scenario) × IsRead left s × WroteFront old new n check_text
Checked left old new st = ⊥

-- Of the large run of a number: there was no memory for its scenario, or that ran, and ended so.
abbrev pub SoakEnds : ℕ → (tells : Type 0) (held : List ℕ → List ℕ → Type 0) (start before now : ℕ) (old new : Option (List ℕ)) → Status → Option Left → List ℕ → Type 0
SoakEnds n tells held start before now old new st net counts =
    (n ≤ 1000) × (((st ≡ status.NoMemory) × Nothing old new net counts) ⊎ RunEnds (forms.Line n) tells held start (soak n) before now old new st net counts)

-- By words.
abbrev pub Ends : (asked : Option Task) (left : Option (List ℕ)) (tells : Type 0) (held : List ℕ → List ℕ → Type 0) (start before now : ℕ) (old new : Option (List ℕ)) → Status → Option Left → List ℕ → Type 0
Ends None left tells held start before now old new st net counts = (st ≡ status.BadWords) × Nothing old new net counts
Ends (Some (tasks.Read purposes.Run)) left tells held start before now old new st net counts = (IsEarly st × Nothing old new net counts) ⊎ RanScenario left tells held start before now old new st net counts
Ends (Some (tasks.Read purposes.Check)) left tells held start before now old new st net counts = (IsEarly st × Nothing old new net counts) ⊎ ((net ≡ None) × (counts ≡ []) × Checked left old new st)
Ends (Some (tasks.Soak n)) left tells held start before now old new st net counts = SoakEnds n tells held start before now old new st net counts

-- nothing is read for the large run of a number
abbrev pub IsUnread : Option Task → Option (List ℕ) → Option (List ℕ) → ℕ → ℕ → Type 0
IsUnread (Some (tasks.Soak n)) left left' reads reads' = (left' ≡ left) × (reads' ≡ reads)
IsUnread _ left left' reads reads' = Unit {0}

-- Where the source tells its bytes, and neither it nor the sink fails: a text that is no scenario is told so, and of another the
-- status is one of a run, or of a check 0; or it is want of memory. Of a large run it is one of a run where the sink doesn't fail.
abbrev pub IsOfRun : Status → Type 0
IsOfRun status.BadWords = ⊥
IsOfRun (status.BadScenario line cause) = ⊥
IsOfRun status.ReadFault = ⊥
IsOfRun (status.WriteFault n) = ⊥
IsOfRun status.TooLong = ⊥
IsOfRun st = Unit {0}

abbrev pub ComesOf : Purpose → Status → Type 0
ComesOf purposes.Run st = IsOfRun st
ComesOf purposes.Check st = (st ≡ status.Ok) ⊎ (st ≡ status.NoMemory)

abbrev pub Comes : Purpose → Status → Status → Type 0
Comes purpose status.Ok st = ComesOf purpose st
Comes purpose other st = (st ≡ other) ⊎ (st ≡ status.NoMemory)

abbrev pub Completes : Option Task → Option (List ℕ) → ℕ → ℕ → ℕ → ℕ → Status → Type 0
Completes None left reads reads' writes writes' st = Unit {0}
Completes (Some (tasks.Read purpose)) left reads reads' writes writes' st =
    (bytes : List ℕ) → left ≡ Some bytes → length bytes ≤ 1048576 → ¬ Rose reads reads' → ¬ Rose writes writes' → Comes purpose (wanted bytes) st
Completes (Some (tasks.Soak n)) left reads reads' writes writes' st = ¬ Rose writes writes' → IsOfRun st

-- a text was written, all of it or its front
abbrev pub Writes : Option (List ℕ) → Option (List ℕ) → List ℕ → Status → Type 0
Writes old new text status.Ok = Appends old new text
Writes old new text (status.WriteFault n) = WroteFront old new n text
Writes old new text st = ⊥

-- why no bytes were read
abbrev pub RefusesBytes : Option (List ℕ) → ℕ → ℕ → Status → Type 0
RefusesBytes left before now status.ReadFault = Rose before now
RefusesBytes left before now status.TooLong = IsLonger left 1048576
RefusesBytes left before now status.NoMemory = Unit {0}
RefusesBytes left before now st = ⊥
