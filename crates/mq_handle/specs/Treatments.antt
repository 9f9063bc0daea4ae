-- What a handler's turn does with its dead letter, and what it comes to.
use Rattle.std.specs.Prelude.{◌≡◌, ◌≤◌, ◌+◌, ◌*◌, ℕ, nat_le, true, false, List, [], Option, Some, None, Result, Ok, Err, if◌then◌else◌, slice_get, slice_set}
use Rattle.mq_base.specs.declared.want.NoMemory.{NoMemory as Want}
use Rattle.mq_calls.specs.declared.agents.AgentStop.{AgentStop}
use Rattle.mq_calls.specs.declared.agents.AgentStop.TheVariants as agent_stops
use Rattle.mq_calls.specs.declared.agents.PlaceFault.{PlaceFault}
use Rattle.mq_calls.specs.declared.agents.PlaceFault.TheVariants as place_faults
use Rattle.mq_disk.specs.declared.cutter.Stop.TheVariants as stops
use Rattle.mq_history.specs.declared.calls.Reply.TheVariants as replies
use Rattle.mq_spec_node.specs.Terms.{Choice, Runs, NoMemory, Stopped, Ident, Part, Plain, Reason, Reply, Step, Refuse, Do, Stop, discard, move_row}
use Rattle.mq_spec_node.specs.Words.{Deed, Handler, Own, Tried, node_of, parts_of, told, tried_as}
use Rattle.mq_core.specs.Values.{CoreValue}
use Rattle.mq_events.specs.declared.outcome.Outcome.{Outcome}
use Rattle.mq_events.specs.Disks.{RoseBy}
use Rattle.mq_events.specs.Outcomes.{Came}
use Rattle.mq_handle.specs.declared.choosing.Dispatch.{Dispatch}
use Rattle.mq_handle.specs.declared.choosing.Ruling.{Ruling}
use Rattle.mq_handle.specs.declared.choosing.Ruling.TheVariants as rulings
use Rattle.mq_handle.specs.declared.finding.DueLetter.{DueLetter}
use Rattle.mq_handle.specs.declared.treating.Ended.{Ended}
use Rattle.mq_handle.specs.declared.treating.Ended.TheVariants as ends

-- What is known of a row that is left alone from now on, and of one whose try has failed.
abbrev pub ignoring : List ℕ → Ident → Tried
ignoring q i = record { queue = q; ident = i; ignored = true; from = 0; failed = 0; due = 0 }

abbrev pub later : List ℕ → Ident → Dispatch → ℕ → ℕ → ℕ → Tried
later q i s n interval moment =
    if nat_le s.retries n then record { queue = q; ident = i; ignored = false; from = s.rule + 1; failed = 0; due = 0 }
    else record { queue = q; ident = i; ignored = false; from = s.rule; failed = n; due = moment + 1000 * interval }

-- What a turn does where nothing stops it: what its manager does, and the handler after it.
pub record Treatment : Type 0 where
  pub parts : List Part
  pub handler : Handler

abbrev pub moving : List ℕ → Ident → Dispatch → ℕ → Handler → Plain → Step Reason (Unit {0}) → Treatment
moving q i s n h p (Refuse reason) = record { parts = []; handler = tried_as (later q i s (n + 1) h.table.retry_interval p.moment) h }
moving q i s n h p (Do reply parts) = record { parts = parts; handler = h }

abbrev pub treatment : List ℕ → Ident → Ruling → ℕ → Handler → Plain → Treatment
treatment q i rulings.Ignore n h p = record { parts = []; handler = tried_as (ignoring q i) h }
treatment q i rulings.Discard n h p = record { parts = parts_of (discard q i p); handler = h }
treatment q i (rulings.Move s) n h p = moving q i s n h p (move_row q i s.to s.bare p)

abbrev pub treatment_of : DueLetter → Handler → Plain → Treatment
treatment_of l h p = treatment l.queue l.ident l.ruling l.failed h p

-- as a deed, of a handler at this place
abbrev pub with_parts : List Part → Own → Deed
with_parts parts own = record (told replies.Tried own) { parts = parts }

abbrev pub at_place : ℕ → Handler → Own → Own
at_place at h own = record own { handlers = slice_set own.handlers at h }

abbrev pub deed_by : ℕ → Treatment → Own → Deed
deed_by at t own = with_parts t.parts (at_place at t.handler own)

-- How a call of the manager ended.
abbrev pub by_stop : AgentStop → Ended
by_stop agent_stops.Disk = ends.Stopped stops.Disk
by_stop agent_stops.Cut = ends.Stopped stops.Cut
by_stop agent_stops.NoMemory = ends.NoMemory

abbrev pub discarded : Result (Unit {0}) AgentStop → Ended
discarded (Ok done) = ends.Done
discarded (Err stop) = by_stop stop

abbrev pub moved : Result (Unit {0}) PlaceFault → Ended
moved (Ok done) = ends.Done
moved (Err (place_faults.Refused reason)) = ends.Refused
moved (Err (place_faults.Stop stop)) = by_stop stop

-- the choice behind it, and what is replied
abbrev pub choice_of : Option Stop → ℕ → Choice
choice_of None left = Runs
choice_of (Some by) left = Stopped by 0 left

abbrev pub reply_of : Option Stop → Reply
reply_of None = replies.Tried
reply_of (Some by) = replies.Stopped by

-- the handler behind a turn that a choice has ended
abbrev pub handler_after : Choice → Treatment → Handler → Handler
handler_after Runs t h = t.handler
handler_after NoMemory t h = h
handler_after (Stopped by part left) t h = h

-- A turn came to this; or there was no memory, and nothing has changed.
pub record Treated (t : Treatment) (h : Handler) (old : CoreValue) (o : Outcome) (next : Handler) (new : CoreValue) : Type 0 where
  pub came : (own : Own) → Came (with_parts t.parts own) (node_of old.plain own) o new.plain
  pub handler : next ≡ handler_after o.choice t h
  pub faults : old.faults ≤ new.faults
  pub rose : RoseBy o.reply old.faults new.faults

pub record Untreated (h : Handler) (old : CoreValue) (next : Handler) (new : CoreValue) : Type 0 where
  pub plain : new.plain ≡ old.plain
  pub handler : next ≡ h
  pub faults : old.faults ≤ new.faults

abbrev pub TreatsAs : Treatment → Handler → CoreValue → Result Outcome Want → Handler → CoreValue → Type 0
TreatsAs t h old (Ok o) next new = Treated t h old o next new
TreatsAs t h old (Err e) next new = Untreated h old next new

-- so of the handler at a place
pub record TreatsAt (l : DueLetter) (at : ℕ) (hs : List Handler) (old : CoreValue) (r : Result Outcome Want) (after : List Handler) (new : CoreValue) : Type 0 where
  pub next : Handler
  pub set : after ≡ slice_set hs at next
  pub treats : (h : Handler) → slice_get hs at ≡ Some h → TreatsAs (treatment_of l h old.plain) h old r next new
