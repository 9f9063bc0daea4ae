-- What a call is: refused, or an answer with what it does, in one or two parts, each behind at most one forced write;
-- and how the free choices end it.
use Rattle.std.specs.Prelude.{◌≡◌, ℕ, zero, suc, is_some, ◌+◌, ◌-◌, ◌<◌, ◌≤◌, Bool, true, List, [], ◌∷◌, ◌++◌, map, if◌then◌else◌, Option, Some, None, Result, Ok, Err}
use Rattle.mq_disk.specs.declared.cutter.Stop.{Stop}
use Rattle.mq_disk.specs.declared.cutter.Stop.TheVariants as stops
use Rattle.mq_calls.specs.Terms.{Choice, Did, LogRecord}
use Rattle.mq_calls.specs.declared.choices.Choice.TheVariants.{Runs, NoMemory, Stopped}
use Rattle.mq_calls.specs.State.{Plain, Change, Noted, LogState}
use Rattle.mq_calls.specs.State.Which.{Nonpersistent}
use Rattle.mq_calls.specs.State.Running.{Down}
use Rattle.mq_calls.specs.Changes.{apply_all, kept_in}
use Rattle.mq_calls.specs.Sizes.{need}

-- a record that is forced, if any, and what is done behind it
pub record Part : Type 0 where
  pub forced : Option LogRecord
  pub changes : List Change
  pub delta : List Did

pub data Step (F T : Type 0) : Type 0 where
  Refuse : (reason : F) → Step F T
  Do : (reply : T) → (parts : List Part) → Step F T

-- A table of refusals: the first that applies.
pub record Test (F : Type 0) : Type 0 where
  pub applies : Bool
  pub reason : F

abbrev pub when : {F : Type 0} → Bool → F → Test F
when b reason = record { applies = b; reason = reason }

abbrev pub refusal : {F : Type 0} → List (Test F) → Option F
refusal [] = None
refusal (t ∷ ts) = if t.applies then Some t.reason else refusal ts

abbrev pub refused_or : {F T : Type 0} → Option F → Step F T → Step F T
refused_or None step = step
refused_or (Some reason) step = Refuse reason

-- the step, where no refusal of the table applies
abbrev pub tested : {F T : Type 0} → List (Test F) → Step F T → Step F T
tested ts step = refused_or (refusal ts) step

-- A call that is read from the top: what is found goes on, a refusal ends it.
abbrev pub going_on : {A F T : Type 0} → Result A F → (A → Step F T) → Step F T
going_on (Err reason) rest = Refuse reason
going_on (Ok found) rest = rest found

infixl 10 ◌>>=◌
abbrev pub ◌>>=◌ : {A F T : Type 0} → Result A F → (A → Step F T) → Step F T
r >>= rest = going_on r rest

abbrev pub passed : {F : Type 0} → Option F → Result (Unit {0}) F
passed None = Ok tt
passed (Some reason) = Err reason

-- no refusal of the table applies
abbrev pub none_of : {F : Type 0} → List (Test F) → Result (Unit {0}) F
none_of ts = passed (refusal ts)

-- changes without a write, of which nothing is told
abbrev pub silent : List Change → Part
silent changes = record { forced = None; changes = changes; delta = [] }

-- an answer that changes nothing
abbrev pub say : {F T : Type 0} → T → Step F T
say reply = Do reply []

-- The free choices of a call are `Choice`: it runs; it finds no memory; or one of its writes is stopped, and so many
-- device calls are left before an armed cut.

pub data Outcome (F T : Type 0) : Type 0 where
  Answered : (reply : T) → Outcome F T
  Refused : (reason : F) → Outcome F T
  Wanting : Outcome F T
  Broken : (by : Stop) → Outcome F T

pub record After (F T : Type 0) : Type 0 where
  pub outcome : Outcome F T
  pub delta : List Did
  pub next : Plain

-- a forced write makes four device calls, which count for an armed cut
abbrev pub calls_of_write : ℕ
calls_of_write = 4

abbrev pub forced_calls : Option LogRecord → ℕ
forced_calls None = 0
forced_calls (Some r) = calls_of_write

abbrev pub calls_of : Part → ℕ
calls_of part = forced_calls part.forced

-- a record stands in the log; it is written there
abbrev pub stands_in : LogRecord → LogState → LogState
stands_in r log = record log { length = log.length + need r }

abbrev pub written : LogRecord → LogState → LogState
written r log = record log { length = log.length + need r; armed = log.armed - calls_of_write }

abbrev pub logged : Option LogRecord → Plain → Plain
logged None p = p
logged (Some r) p = record p { log = written r p.log }

-- the parts are done in order
abbrev pub do_part : Part → Plain → Plain
do_part part p = apply_all part.changes (logged part.forced p)

abbrev pub do_all : List Part → Plain → Plain
do_all [] p = p
do_all (part ∷ parts) p = do_all parts (do_part part p)

-- what the parts tell
abbrev pub delta_of : List Part → List Did
delta_of [] = []
delta_of (part ∷ parts) = part.delta ++ delta_of parts

-- nonpersistent rows go
abbrev pub volatile_gone : Plain → Plain
volatile_gone p = record p { queues = map (kept_in Nonpersistent) p.queues }

-- A stopped write freezes the manager: it is down with the note, its nonpersistent rows go, all else waits for the restart.
abbrev pub freeze : Option Noted → ℕ → Plain → Plain
freeze note left p = record (volatile_gone p) { running = Down note 0; log = record p.log { armed = left } }

abbrev pub note_of : Part → Option LogRecord → Option Noted
note_of part None = None
note_of part (Some r) = Some (record { written = r; changes = part.changes; delta = part.delta })

-- the parts before the stopped one are done
abbrev pub stopped_at : ℕ → List Part → ℕ → Plain → Plain
stopped_at n [] left p = p
stopped_at zero (part ∷ parts) left p = freeze (note_of part part.forced) left p
stopped_at (suc n) (part ∷ parts) left p = stopped_at n parts left (do_part part p)

abbrev pub delta_before : ℕ → List Part → List Did
delta_before n [] = []
delta_before zero (part ∷ parts) = []
delta_before (suc n) (part ∷ parts) = part.delta ++ delta_before n parts

abbrev pub chosen : {F T : Type 0} → Choice → T → List Part → Plain → After F T
chosen Runs reply parts p = record { outcome = Answered reply; delta = delta_of parts; next = do_all parts p }
chosen NoMemory reply parts p = record { outcome = Wanting; delta = []; next = p }
chosen (Stopped by n left) reply parts p = record { outcome = Broken by; delta = delta_before n parts; next = stopped_at n parts left p }

-- what a step comes to under a choice
abbrev pub after : {F T : Type 0} → Step F T → Choice → Plain → After F T
after (Refuse reason) choice p = record { outcome = Refused reason; delta = []; next = p }
after (Do reply parts) choice p = chosen choice reply parts p

-- Which choices there are. The device calls of all parts, of those before a part, and of a part itself.
abbrev pub write_calls : List Part → ℕ
write_calls [] = 0
write_calls (part ∷ parts) = calls_of part + write_calls parts

abbrev pub calls_before : ℕ → List Part → ℕ
calls_before n [] = 0
calls_before zero (part ∷ parts) = 0
calls_before (suc n) (part ∷ parts) = calls_of part + calls_before n parts

abbrev pub calls_at : ℕ → List Part → ℕ
calls_at n [] = 0
calls_at zero (part ∷ parts) = calls_of part
calls_at (suc n) (part ∷ parts) = calls_at n parts

abbrev pub IsWrite : ℕ → List Part → Type 0
IsWrite n [] = ⊥
IsWrite zero (part ∷ parts) = is_some part.forced ≡ true
IsWrite (suc n) (part ∷ parts) = IsWrite n parts

-- in a write of so many calls the cut comes exactly at the armed call; the disk may stop any call before it
abbrev pub StopsAt : Stop → (calls armed before left : ℕ) → Type 0
StopsAt stops.Cut calls armed before left = (before < armed) × (armed ≤ before + calls) × (left ≡ 0)
StopsAt stops.Disk calls armed before left =
    (0 < armed → (before < armed) × (0 < left) × (before + left < armed)) × (armed ≤ before + left + calls) × (armed ≡ 0 → left ≡ 0)

abbrev pub Possible : Choice → List Part → ℕ → Type 0
Possible Runs parts armed = 0 < armed → write_calls parts < armed
Possible NoMemory parts armed = Unit {0}
Possible (Stopped by n left) parts armed = IsWrite n parts × StopsAt by (calls_at n parts) armed (calls_before n parts) left

-- the state after a call that runs, and its answer
abbrev pub next : {F T : Type 0} → Step F T → Plain → Plain
next step p = (after step Runs p).next
