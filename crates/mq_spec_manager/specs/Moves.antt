-- The dead-letter handler's calls.
use Rattle.std.specs.Prelude.{ℕ, Bool, true, false, ◌&&◌, List, [], ◌∷◌, ◌++◌, if◌then◌else◌, Option, Some, None, Result, Ok, Err, length, filter, drop, find}
use Rattle.mq_sc_apply.specs.from_calls.Words.{Reason, Dest, Ident, Message, Place as RowPlace, Route, stored, is_persistent, is_full, need, Plain, Among, Step, Part, when, tested, say, Refuse, Do, has_ident, is_free, is_after, Row}
use Rattle.mq_sc_apply.specs.from_calls.{LogRecord}
use Rattle.mq_sc_apply.specs.from_codes.ReasonVariants as reasons
use Rattle.mq_sc_apply.specs.from_resolve.Resolved.{resolve}
use Rattle.mq_sc_apply.specs.from_calls.DidVariants as did
use Rattle.mq_sc_apply.specs.from_calls.WhyVariants as whys
use Rattle.mq_sc_apply.specs.from_calls.LogRecordVariants as records
use Rattle.mq_heads.specs.Headers.{dlh_in}
use Rattle.mq_sc_apply.specs.from_calls.State.Change.{Leave}
use Rattle.mq_spec_manager.specs.Words.{removal_parts, placed, Never}
use Rattle.mq_spec_manager.specs.Batches.{row_with}
use Rattle.mq_spec_manager.specs.Landing.{Landing, landing, route_tests}

-- The handler's calls. The first free row above a place.
abbrev pub next_row : List ℕ → Option RowPlace → Plain → Option Row
next_row queue after p = find (λ (row : Row). is_free row && is_after after row) (stored queue p).rows

-- without the header of a dead letter, which gives back three fields
abbrev pub bare_message : Message → Message
bare_message m = record m {
  md = record m.md { format = (dlh_in m.body).format; encoding = (dlh_in m.body).encoding; coded_char_set_id = (dlh_in m.body).coded_char_set_id };
  body = drop 172 m.body;
}

abbrev pub bare_if : Bool → Message → Message
bare_if true m = bare_message m
bare_if false m = m

abbrev pub moved_record : List ℕ → Landing → LogRecord
moved_record from l = records.Moved from l.message.ident l.queue l.message

abbrev pub move_full : List ℕ → Landing → Plain → Bool
move_full from l p = is_persistent l.message && is_full (need (moved_record from l)) p

abbrev pub moved_forced : List ℕ → Landing → Option LogRecord
moved_forced from l = if is_persistent l.message then Some (moved_record from l) else None

-- a move, behind its record where the message lasts
abbrev pub move_part : List ℕ → Dest → Bool → Landing → Part
move_part from to bare l = record {
  forced = moved_forced from l;
  changes = Leave (Among from (l.message.ident ∷ [])) ∷ placed l.queue l.message;
  delta = did.Moved from l.message.ident l.queue to bare ∷ [];
}

abbrev pub move_landing : List ℕ → Dest → Bool → Route → Landing → Plain → Step Reason (Unit {0})
move_landing from to bare route l p = tested (
    route_tests route (length l.message.body) p
    ++ when (move_full from l p) reasons.ResourceProblem
    ∷ [])
    (Do tt (move_part from to bare l ∷ []))

-- the move of a row by a rule's target
abbrev pub move_resolved : List ℕ → Dest → Bool → Result Route Reason → Message → Plain → Step Reason (Unit {0})
move_resolved from to bare (Err reason) m p = Refuse reason
move_resolved from to bare (Ok route) m p = move_landing from to bare route (landing route m) p

abbrev pub move_found : List ℕ → Dest → Bool → Option Message → Plain → Step Reason (Unit {0})
move_found from to bare None p = say tt
move_found from to bare (Some m) p = move_resolved from to bare (resolve p.definitions p.given.name to.queue to.qmgr) (bare_if bare m) p

abbrev pub move_row : List ℕ → Ident → Dest → Bool → Plain → Step Reason (Unit {0})
move_row from ident to bare p = move_found from to bare (row_with (Some ident) (stored from p).rows) p

-- removed by a rule; not refused for want of room in the log
abbrev pub discard_rows : List ℕ → List Row → Step Never (Unit {0})
discard_rows queue rows = Do tt (removal_parts whys.Discarded queue rows)

abbrev pub discard : List ℕ → Ident → Plain → Step Never (Unit {0})
discard queue ident p = discard_rows queue (filter (has_ident ident) (stored queue p).rows)
