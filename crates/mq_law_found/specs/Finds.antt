-- A write that was stopped, and what a restart does that finds it.
use Rattle.std.specs.Prelude.{ℕ, ◌≡◌, true, List, [], None, Some}
use Rattle.mq_message.specs.declared.message.Ident.{Ident}
use Rattle.std.specs.Prelude.{Bool}
use Rattle.mq_disk.specs.declared.cutter.Stop.{Stop}
use Rattle.mq_calls.specs.declared.deltas.Did.{Did}
use Rattle.mq_history.specs.declared.calls.Call.{Call}
use Rattle.mq_history.specs.declared.calls.Chance.{Chance}
use Rattle.mq_history.specs.declared.calls.Entry.{Entry}
use Rattle.mq_history.specs.declared.calls.Reply.TheVariants as replies
use Rattle.mq_calls.specs.declared.records.LogRecord.{LogRecord}
use Rattle.mq_calls.specs.State.{Plain, Running, LogState, Noted}
use Rattle.mq_calls.specs.Steps.{Step, Part, IsWrite, stopped_at, volatile_gone}
use Rattle.mq_calls.specs.Steps.Step.{Refuse, Do}
use Rattle.mq_spec_manager.specs.Stops.{redone, redone_delta, restarted}
use Rattle.mq_spec_network.specs.Ledger as ledgers
use Rattle.mq_spec_network.specs.Ledger.{Ledger, take_all_gone}
use Rattle.mq_spec_network.specs.Order.{unit_received}
use Rattle.mq_law_manager.specs.Facts.{IsSound}
use Rattle.mq_law_log.specs.Restarts.{note_at}
use Rattle.mq_law_events.specs.Tied.{IsTold, IsFresh, Follow}

-- a manager that is down, whatever a clock, an armed cut and stopped restarts have done since
abbrev pub since : Plain → Running → ℕ → LogState → Plain
since p running moment log = record p { running = running; moment = moment; log = log }

-- what is posted of a restart that finds the write: what it tells, and then the call, with what the restart tells of it
abbrev pub posted_again : ℕ → ledgers.Stopped → List Did → Ledger → Ledger
posted_again m s ds l = ledgers.found m (Some s) ds (take_all_gone m ds l)

-- The note of a manager that is down is of the call that the ledger has as stopped: what a restart does that finds the write is
-- followed by what is posted of that call; the manager is sound behind it; and it tells no receiver's commit.
pub record IsNoted (m : ℕ) (s : ledgers.Stopped) (n : Noted) (p : Plain) : Type 0 where
  pub followed : (given : Ident → Bool) (running : Running) (moment : ℕ) (log : LogState) (l : Ledger) → IsFresh given p → IsTold m (since p running moment log) l
      → Follow m given (since p running moment log) l (redone n (since p running moment log)) (posted_again m s (redone_delta true (Some n) (since p running moment log)) l)
  pub sound : (started : ℕ) (running : Running) (moment : ℕ) (log : LogState) → IsSound (restarted true started (Some n) (since p running moment log))
  pub quiet : unit_received n.delta ≡ None

-- a call whose write was stopped at that moment
abbrev pub stopped_call : Entry → Call → Chance → Stop → List Did → ℕ → ledgers.Stopped
stopped_call e call chance by ds moment =
    record { entry = record e { call = call; chance = chance; reply = replies.Stopped by; effect = record e.effect { delta = ds; received = [] } }; moment = moment }

-- A part of the call whose write is stopped leaves such a note.
abbrev pub PartNotes : ℕ → Call → ℕ → Plain → Part → Type 0
PartNotes m call moment p part = (r : LogRecord) (e : Entry) (chance : Chance) (by : Stop) (ds : List Did) → part.forced ≡ Some r
    → IsNoted m (stopped_call e call chance by ds moment) (record { written = r; changes = part.changes; delta = part.delta }) (volatile_gone p)

-- Whichever write of the call is stopped, the note is such a one.
abbrev pub StepNotes : {F T : Type 0} → ℕ → Call → Plain → Step F T → Type 0
StepNotes m call p (Refuse reason) = Unit {0}
StepNotes m call p (Do reply parts) = (n left : ℕ) (e : Entry) (chance : Chance) (by : Stop) (ds : List Did) (note : Noted) → IsWrite n parts → note_at n parts ≡ Some note
    → IsNoted m (stopped_call e call chance by ds p.moment) note (stopped_at n parts left p)
