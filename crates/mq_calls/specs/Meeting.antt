-- How a body meets a step: by its result, which names the free choice, and by the manager after it.
use Rattle.std.specs.Prelude.{◌≡◌, ℕ, ◌≤◌, List, [], Option, Some, None, Result, Ok, Err}
use Rattle.mq_disk.specs.from_base.Outside.{Rose}
use Rattle.mq_disk.specs.declared.cutter.Stop.{Stop}
use Rattle.mq_disk.specs.declared.cutter.Stop.TheVariants as stops
use Rattle.mq_calls.specs.Terms.{Reason, Answer, Halt, Did}
use Rattle.mq_resolve.specs.from_codes.ReasonVariants as reasons
use Rattle.mq_calls.specs.declared.answers.Answer.TheVariants as answers
use Rattle.mq_calls.specs.declared.commands.Halt.TheVariants as halts
use Rattle.mq_calls.specs.State.{Plain}
use Rattle.mq_calls.specs.Steps.{Step, Part, do_all, delta_of, delta_before, stopped_at, Possible, IsWrite, StopsAt, calls_at, calls_before}
use Rattle.mq_calls.specs.Steps.Step.{Refuse, Do}
use Rattle.mq_calls.specs.declared.choices.Choice.TheVariants.{Runs}

-- What is seen of a manager: its plain state; what its last call changed, and what stopped that call's write, if it was
-- stopped; how often its disk has failed.
pub record ManagerValue : Type 0 where
  pub plain : Plain
  pub delta : List Did
  pub stopped : Option Stop
  pub faults : ℕ

-- a call that did nothing
abbrev pub untouched : ManagerValue → ManagerValue
untouched v = record v { delta = []; stopped = None }

-- all parts are done; a count of faults may rise where no call fails
abbrev pub done_all : List Part → ℕ → ManagerValue → ManagerValue
done_all parts faults v = record { plain = do_all parts v.plain; delta = delta_of parts; stopped = None; faults = faults }

-- the write of the part of that number is stopped; those before it are done
abbrev pub broken_at : Stop → ℕ → List Part → (left faults : ℕ) → ManagerValue → ManagerValue
broken_at by part parts left faults v =
    record { plain = stopped_at part parts left v.plain; delta = delta_before part parts; stopped = Some by; faults = faults }

-- Where a call may find no memory: nowhere, behind all refusals, or in place of any answer. It leaves all as it was.
pub data Wants : Type 0 where
  Nowhere : Wants
  Behind : Wants
  Anywhere : Wants

abbrev pub WantsBehind : Wants → ManagerValue → ManagerValue → Type 0
WantsBehind Nowhere old new = ⊥
WantsBehind Behind old new = new ≡ untouched old
WantsBehind Anywhere old new = new ≡ untouched old

abbrev pub WantsBefore : Wants → ManagerValue → ManagerValue → Type 0
WantsBefore Nowhere old new = ⊥
WantsBefore Behind old new = ⊥
WantsBefore Anywhere old new = new ≡ untouched old

-- what the writes take of an armed cut
abbrev pub Ran : List Part → ℕ → Type 0
Ran parts armed = Possible Runs parts armed

-- a write was stopped; by the disk only where its count rose
pub record StoppedIn (by : Stop) (parts : List Part) (old new : ManagerValue) : Type 0 where
  pub part : ℕ
  pub write : IsWrite part parts
  pub stop : StopsAt by (calls_at part parts) old.plain.log.armed (calls_before part parts) new.plain.log.armed
  pub next : new ≡ broken_at by part parts new.plain.log.armed new.faults old
  pub later : old.faults ≤ new.faults
  pub rose : by ≡ stops.Disk → Rose old.faults new.faults

abbrev pub MeetsDone : {F T : Type 0} → Wants → ManagerValue → T → List Part → Result T (Halt F) → ManagerValue → Type 0
MeetsDone wants old reply parts (Ok value) new = (value ≡ reply) × Ran parts old.plain.log.armed × (old.faults ≤ new.faults) × (new ≡ done_all parts new.faults old)
MeetsDone wants old reply parts (Err (halts.Refused reason)) new = ⊥
MeetsDone wants old reply parts (Err halts.NoMemory) new = WantsBehind wants old new
MeetsDone wants old reply parts (Err (halts.Stopped by)) new = StoppedIn by parts old new

abbrev pub MeetsRefusal : {F T : Type 0} → Wants → ManagerValue → F → Result T (Halt F) → ManagerValue → Type 0
MeetsRefusal wants old reason (Ok value) new = ⊥
MeetsRefusal wants old reason (Err (halts.Refused other)) new = (other ≡ reason) × (new ≡ untouched old)
MeetsRefusal wants old reason (Err halts.NoMemory) new = WantsBefore wants old new
MeetsRefusal wants old reason (Err (halts.Stopped by)) new = ⊥

abbrev pub MeetsAs : {F T : Type 0} → Wants → ManagerValue → Step F T → Result T (Halt F) → ManagerValue → Type 0
MeetsAs wants old (Refuse reason) result new = MeetsRefusal wants old reason result new
MeetsAs wants old (Do reply parts) result new = MeetsDone wants old reply parts result new

-- an MQI call, whose want of memory is an answer of its own
abbrev pub Meets : {F T : Type 0} → ManagerValue → Step F T → Result T (Halt F) → ManagerValue → Type 0
Meets old step result new = MeetsAs Behind old step result new

-- a command, or a call of a channel's end or of the handler: want of memory is no event
abbrev pub MeetsOrWants : {F T : Type 0} → ManagerValue → Step F T → Result T (Halt F) → ManagerValue → Type 0
MeetsOrWants old step result new = MeetsAs Anywhere old step result new

-- a call that takes no memory
abbrev pub MeetsInRoom : {F T : Type 0} → ManagerValue → Step F T → Result T (Halt F) → ManagerValue → Type 0
MeetsInRoom old step result new = MeetsAs Nowhere old step result new

-- what an MQI call then answers
abbrev pub answer_of : {T : Type 0} → Result (Answer T) (Halt Reason) → Answer T
answer_of (Ok answer) = answer
answer_of (Err (halts.Refused reason)) = answers.Failed reason
answer_of (Err halts.NoMemory) = answers.Failed reasons.StorageNotAvailable
answer_of (Err (halts.Stopped by)) = answers.Failed reasons.ConnectionBroken
