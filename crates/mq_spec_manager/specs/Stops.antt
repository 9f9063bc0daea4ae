-- First start, stop, restart, cut, clock.
use Rattle.std.specs.Prelude.{◌≡◌, ℕ, ◌+◌, ◌-◌, ◌*◌, ◌<◌, ◌≤◌, ◌⊎◌, min, filter, Bool, true, false, List, [], ◌∷◌, ◌++◌, Option, Some, None, map}
use Rattle.mq_heads.specs.from_message.HolderVariants as holders
use Rattle.mq_sc_apply.specs.from_calls.Words.{Ident, Plain, Given, Change, Noted, Running, LogState, HeldBy, HeldByUnits, Nonpersistent, Up, Down, apply_all, lasting, begun, raised, stands, need, After, stands_in, calls_of_write, same_ident}
use Rattle.mq_sc_apply.specs.from_calls.{Add, Batch, Did, Image, Kept, LogRecord, RestartFault, Return}
use Rattle.mq_sc_apply.specs.from_calls.ReturnVariants.{Comes, Fails}
use Rattle.mq_sc_apply.specs.from_calls.RestartFaultVariants as faults
use Rattle.std.specs.List.{list_any}
use Rattle.mq_sc_apply.specs.from_calls.DidVariants as did
use Rattle.mq_sc_apply.specs.from_calls.LogRecordVariants as records
use Rattle.mq_sc_apply.specs.from_calls.State.Change.{Release, Leave, ForgetAll}
use Rattle.mq_sc_apply.specs.from_calls.Steps.Outcome.{Answered, Refused, Wanting}

-- What a stop does: units are backed out, batches that are not prepared are released, nonpersistent rows go.
abbrev pub release_batch : Batch → Change
release_batch b = Release (HeldBy (holders.Batch b.channel)) false

abbrev pub stop_changes : Plain → List Change
stop_changes p = Release HeldByUnits true ∷ map release_batch p.channels.batches ++ Leave Nonpersistent ∷ ForgetAll ∷ []

abbrev pub at_rest : Plain → Plain
at_rest p = apply_all (stop_changes p) p

abbrev pub stop_at : Running → Plain → After RestartFault Bool
stop_at Up p = record { outcome = Answered true; delta = []; next = record (at_rest p) { running = Down None 0 } }
stop_at (Down noted starts) p = record { outcome = Answered false; delta = []; next = p }

abbrev pub stop : Plain → After RestartFault Bool
stop p = stop_at p.running p

-- How a restart ends is `Return`: it comes up, the stopped write found or not, with so many Started records of stopped
-- restarts; or it fails, in its own Started write or before it, with so many calls left before an armed cut.

-- a Started record; the one of a restart, behind those of restarts that were stopped
abbrev pub started_record : Given → ℕ → LogRecord
started_record given incarnation = records.Started given.number given.name incarnation

abbrev pub next_started : ℕ → Plain → LogRecord
next_started started p = started_record p.given (p.numbers.incarnation + started + 1)

-- what one takes of the log
abbrev pub started_need : Given → ℕ
started_need given = need (started_record given 0)

-- what a kept write does, with its record in the log
abbrev pub redone : Noted → Plain → Plain
redone n p = apply_all n.changes (record p { log = stands_in n.written p.log })

abbrev pub redone_if : Bool → Option Noted → Plain → Plain
redone_if true (Some n) p = redone n p
redone_if true None p = p
redone_if false noted p = p

-- Device calls of a start: before the Started record one, or three where the log is empty; and that record's. A restart
-- that finds what the history allows finds a log, so it makes five.
abbrev pub calls_of_start : ℕ
calls_of_start = 1

abbrev pub calls_of_empty_start : ℕ
calls_of_empty_start = 3

abbrev pub calls_of_restart : ℕ
calls_of_restart = calls_of_start + calls_of_write

abbrev pub grown : ℕ → Plain → LogState
grown started p = record { length = p.log.length + (started + 1) * started_need p.given; armed = p.log.armed - calls_of_restart }

-- A restart gives what recovery gives of the log: what lasts, in the next incarnation.
abbrev pub restarted : Bool → ℕ → Option Noted → Plain → Plain
restarted kept started noted p =
    begun p.given (raised started (lasting (redone_if kept noted p))) (grown started (redone_if kept noted p)) p.moment

-- what a kept write did to rows that last: those that its record adds, and those that stand since the stop
abbrev pub adds_of : LogRecord → List Add
adds_of (records.Unit adds removes) = adds
adds_of (records.Received channel unit last adds) = adds
adds_of _ = []

abbrev pub is_added : Ident → LogRecord → Bool
is_added ident r = list_any (λ (a : Add). same_ident ident a.message.ident) (adds_of r)

abbrev pub lasts : LogRecord → Plain → Did → Bool
lasts r p (did.Placed queue ident dead) = is_added ident r
lasts r p (did.Removed queue ident why) = stands ident p
lasts r p (did.Moved from ident to target bare) = true
lasts r p (did.Held queue ident by) = stands ident p
lasts r p (did.Released queue ident) = stands ident p
lasts r p (did.Hardened channel note) = true
lasts r p (did.Prepared channel unit) = true
lasts r p (did.Received channel unit) = true

abbrev pub redone_delta : Bool → Option Noted → Plain → List Did
redone_delta true (Some n) p = filter (lasts n.written p) n.delta
redone_delta true None p = []
redone_delta false noted p = []

-- a restart that is refused, in its Started write or before it
abbrev pub failed : RestartFault → Bool → ℕ → Option Noted → ℕ → Plain → After RestartFault Kept
failed faults.NoMemory in_write left noted starts p = record { outcome = Wanting; delta = []; next = p }
failed fault true left noted starts p =
    record { outcome = Refused fault; delta = []; next = record p { running = Down noted (starts + 1); log = record p.log { armed = left } } }
failed fault false left noted starts p = record { outcome = Refused fault; delta = []; next = record p { log = record p.log { armed = left } } }

-- a restart of a manager that is down; one that is up is refused
abbrev pub restart_down : Return → Option Noted → ℕ → Plain → After RestartFault Kept
restart_down (Comes kept started) noted starts p =
    record { outcome = Answered (record { kept = kept }); delta = redone_delta kept noted p; next = restarted kept started noted p }
restart_down (Fails fault in_write left) noted starts p = failed fault in_write left noted starts p

abbrev pub restart_at : Running → Return → Plain → After RestartFault Kept
restart_at Up choice p = record { outcome = Refused faults.Up; delta = []; next = p }
restart_at (Down noted starts) choice p = restart_down choice noted starts p

abbrev pub restart : Return → Plain → After RestartFault Kept
restart choice p = restart_at p.running choice p

-- which ends of a restart there are, for a noted write and stopped starts before
abbrev pub CanBeKept : Bool → Option Noted → Type 0
CanBeKept true None = ⊥
CanBeKept true (Some n) = Unit {0}
CanBeKept false noted = Unit {0}

-- an armed cut has so many calls less, at least and at most, and is still to come
abbrev pub Spent : (least most armed left : ℕ) → Type 0
Spent least most armed left = ((armed ≡ 0) × (left ≡ 0)) ⊎ ((0 < left) × (left + least ≤ armed) × (armed ≤ left + most))

-- with at most so many device calls before the Started record
abbrev pub CanReturnWith : (first : ℕ) → Return → Option Noted → (starts armed : ℕ) → Type 0
CanReturnWith first (Comes kept started) noted starts armed = CanBeKept kept noted × (started ≤ starts) × (0 < armed → calls_of_restart < armed)
CanReturnWith first (Fails faults.Cut true left) noted starts armed = (left ≡ 0) × (calls_of_start < armed) × (armed ≤ first + calls_of_write)
CanReturnWith first (Fails faults.Cut false left) noted starts armed = (left ≡ 0) × (0 < armed) × (armed ≤ first)
CanReturnWith first (Fails faults.Disk true left) noted starts armed = Spent (calls_of_start + 1) (first + calls_of_write) armed left
CanReturnWith first (Fails faults.Disk false left) noted starts armed = Spent 0 first armed left
CanReturnWith first (Fails (faults.BadLog place) true left) noted starts armed = ⊥
CanReturnWith first (Fails (faults.BadLog place) false left) noted starts armed = Spent calls_of_start calls_of_start armed left
CanReturnWith first (Fails faults.NoMemory in_write left) noted starts armed = Unit {0}
CanReturnWith first (Fails faults.Up in_write left) noted starts armed = ⊥

abbrev pub CanReturn : Return → Option Noted → (starts armed : ℕ) → Type 0
CanReturn choice noted starts armed = CanReturnWith calls_of_empty_start choice noted starts armed

-- over a disk that tells its bytes, the log is never found empty
abbrev pub CanReturnTold : Return → Option Noted → (starts armed : ℕ) → Type 0
CanReturnTold choice noted starts armed = CanReturnWith calls_of_start choice noted starts armed

-- A first start, of an image of its log and the log's length: one Started record more, no cut is armed.
abbrev pub first_start : Given → Image → (length moment : ℕ) → Plain
first_start given image length moment = begun given (raised 0 image) (record { length = length + started_need given; armed = 0 }) moment

-- the k-th device call from now on is to be stopped; with 0 none
abbrev pub cut : ℕ → Plain → Plain
cut k p = record p { log = record p.log { armed = k } }

-- the last moment that there is
abbrev pub last_moment : ℕ
last_moment = 253402300799999

abbrev pub advance_clock : ℕ → Plain → Plain
advance_clock by p = record p { moment = min (p.moment + by) last_moment }
