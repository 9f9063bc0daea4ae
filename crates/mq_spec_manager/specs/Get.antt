-- MQGET.
use Rattle.std.specs.Prelude.{ℕ, pos, ◌+◌, ◌*◌, nat_lt, Bool, true, false, not, ◌&&◌, List, [], ◌∷◌, ◌++◌, if◌then◌else◌, Option, Some, None, length, map, filter, take, codes}
use Rattle.std.specs.List.{list_any}
use Rattle.mq_sc_apply.specs.from_calls.Words.{Reason, Ident, Dest, Md, Message, Place, Want, Object, Definitions, PathStep, Plain, Among, stored, is_persistent, is_input, handle_at, is_expired, more_need, is_full, Step, Part, Test, when, tested, silent, say, Do, Row, is_free, is_wanted, is_after, same_place, queue_of}
use Rattle.mq_sc_apply.specs.from_calls.{Answer, Connection, Get, GetAnswer, Got, Handle, Hconn, Hobj, LogRecord, Remove, Take, Why}
use Rattle.mq_sc_apply.specs.from_codes.ReasonVariants as reasons
use Rattle.mq_heads.specs.from_message.HolderVariants as holders
use Rattle.mq_sc_apply.specs.from_objects.ObjectVariants as objects
use Rattle.mq_sc_apply.specs.from_resolve.PathStepVariants as steps
use Rattle.mq_sc_apply.specs.from_calls.AnswerVariants as answers
use Rattle.mq_sc_apply.specs.from_calls.TakeVariants as takes
use Rattle.mq_sc_apply.specs.from_calls.GetAnswerVariants.{NotYet, Done}
use Rattle.mq_sc_apply.specs.from_calls.DidVariants as did
use Rattle.mq_sc_apply.specs.from_calls.WhyVariants as reasons_gone
use Rattle.mq_sc_apply.specs.from_calls.LogRecordVariants as records
use Rattle.mq_sc_apply.specs.from_calls.ItemVariants.{Take as Taken}
use Rattle.mq_sc_apply.specs.from_calls.State.Change.{Leave, Hold, SetCursor, Pend}
use Rattle.mq_heads.specs.Headers.{xqh_bytes}
use Rattle.mq_spec_manager.specs.Heads.{xqh_of}
use Rattle.mq_spec_manager.specs.Handles.{connected, for_connection, for_handle}
use Rattle.mq_spec_manager.specs.Put.{queue_at, sync_full}

abbrev pub is_destructive : Take → Bool
is_destructive takes.Next = true
is_destructive takes.UnderCursor = true
is_destructive takes.BrowseFirst = false
is_destructive takes.BrowseNext = false
is_destructive takes.BrowseUnder = false

-- the row under the cursor is asked for
abbrev pub is_under : Take → Bool
is_under takes.Next = false
is_under takes.UnderCursor = true
is_under takes.BrowseFirst = false
is_under takes.BrowseNext = false
is_under takes.BrowseUnder = true

-- a handle that browses is needed
abbrev pub needs_browse : Take → Bool
needs_browse takes.Next = false
needs_browse takes.UnderCursor = true
needs_browse takes.BrowseFirst = true
needs_browse takes.BrowseNext = true
needs_browse takes.BrowseUnder = true

-- the alias or the queue is get-disabled
abbrev pub is_get_disabled : Option Object → Bool
is_get_disabled None = false
is_get_disabled (Some (objects.Local q)) = not q.get_enabled
is_get_disabled (Some (objects.Alias q)) = not q.get_enabled
is_get_disabled (Some (objects.Remote q)) = false
is_get_disabled (Some (objects.Channel c)) = false
is_get_disabled (Some (objects.Process c)) = false

abbrev pub is_disabled_at : Definitions → PathStep → Bool
is_disabled_at d (steps.Queue name) = is_get_disabled (queue_of name d)
is_disabled_at d steps.DefXmitq = false

-- The scan: the expired rows that it meets, and the row that it finds.
pub record Scan : Type 0 where
  pub expired : List Row
  pub found : Option Row

abbrev pub scan_row : (meets : Bool) → (expired : Bool) → Row → Scan → Scan
scan_row false expired row rest = rest
scan_row true true row rest = record rest { expired = row ∷ rest.expired }
scan_row true false row rest = record { expired = []; found = Some row }

abbrev pub scan : Want → Plain → List Row → Scan
scan want p [] = record { expired = []; found = None }
scan want p (row ∷ rows) = scan_row (is_free row && is_wanted want row) (is_expired p row) row (scan want p rows)

abbrev pub is_at : Option Place → Row → Bool
is_at None row = false
is_at (Some place) row = same_place place row.place

-- the rows at which a take looks, and the ids that it asks for
abbrev pub looked_at : Take → Option Place → List Row → List Row
looked_at takes.Next cursor rows = rows
looked_at takes.BrowseFirst cursor rows = rows
looked_at takes.BrowseNext cursor rows = filter (is_after cursor) rows
looked_at takes.UnderCursor cursor rows = filter (is_at cursor) rows
looked_at takes.BrowseUnder cursor rows = filter (is_at cursor) rows

abbrev pub any_id : Want
any_id = record { msg_id = None; correl_id = None }

abbrev pub asked : Get → Want
asked get = if is_under get.take then any_id else get.want

abbrev pub scanned : Get → Handle → Plain → Scan
scanned get h p = scan (asked get) p (looked_at get.take h.cursor (stored (queue_at h.leads) p).rows)

-- What an application reads: on a transmission queue a message behind its header.
abbrev pub read_body : Option Dest → Message → List ℕ
read_body None m = m.body
read_body (Some dest) m = xqh_bytes (xqh_of dest m.md) ++ m.body

abbrev pub read_md : Option Dest → Md → Md
read_md None md = md
read_md (Some dest) md = record md { format = codes "MQXMIT  "; encoding = pos 273; coded_char_set_id = pos 1208 }

abbrev pub length_of : Message → ℕ
length_of m = length (read_body m.route m)

abbrev pub got : ℕ → Message → Got
got room m = record { ident = m.ident; md = read_md m.route m.md; body = take room (read_body m.route m); length = length_of m }

-- longer than the room: refused with a warning, or cut with one
abbrev pub is_too_long : Get → Message → Bool
is_too_long get m = nat_lt get.room (length_of m)

abbrev pub is_left : Get → Message → Bool
is_left get m = is_too_long get m && not get.truncate

-- The room in the log: for the expired persistent rows, and for the row that is removed or held.
abbrev pub persistent_rows : List Row → List Row
persistent_rows rows = filter (λ (row : Row). is_persistent row.message) rows

abbrev pub removes_of : List ℕ → List Row → List Remove
removes_of queue rows = map (λ (row : Row). record { queue = queue; ident = row.message.ident }) rows

abbrev pub expired_need : List Row → ℕ
expired_need [] = 0
expired_need (row ∷ rows) = 14 + 65 * length (row ∷ rows)

abbrev pub taking_need : Bool → Connection → ℕ
taking_need true c = more_need c.unit 65
taking_need false c = 79

abbrev pub found_need : Get → Connection → Option Row → ℕ
found_need get c None = 0
found_need get c (Some row) =
    if is_destructive get.take && is_persistent row.message && not (is_left get row.message) then taking_need get.sync c else 0

-- the room that a get needs
abbrev pub scan_need : Get → Connection → Scan → ℕ
scan_need get c s = expired_need (persistent_rows s.expired) + found_need get c s.found

-- The expired rows that were met go first, behind a write of their own where one is persistent.
abbrev pub removal_record : List ℕ → List Row → Option LogRecord
removal_record queue [] = None
removal_record queue (row ∷ rows) = Some (records.Unit [] (removes_of queue (row ∷ rows)))

abbrev pub idents_of : List Row → List Ident
idents_of rows = map (λ (row : Row). row.message.ident) rows

abbrev pub removal_part : Why → List ℕ → List Row → Part
removal_part why queue rows = record {
  forced = removal_record queue (persistent_rows rows);
  changes = Leave (Among queue (idents_of rows)) ∷ [];
  delta = map (λ (row : Row). did.Removed queue row.message.ident why) rows;
}

abbrev pub removal_parts : Why → List ℕ → List Row → List Part
removal_parts why queue [] = []
removal_parts why queue (row ∷ rows) = removal_part why queue (row ∷ rows) ∷ []

abbrev pub expired_parts : List ℕ → List Row → List Part
expired_parts queue rows = removal_parts reasons_gone.Expired queue rows

-- a destructive get holds the row for the unit, or removes it
abbrev pub taking_part : Bool → Connection → List ℕ → Row → Part
taking_part true c queue row = record {
  forced = None;
  changes = Hold (Among queue (row.message.ident ∷ [])) (holders.Unit c.number) ∷ Pend c.number (Taken queue row.message.ident (is_persistent row.message)) ∷ [];
  delta = did.Held queue row.message.ident (holders.Unit c.number) ∷ [];
}
taking_part false c queue row = removal_part reasons_gone.Got queue (row ∷ [])

abbrev pub found_part : Get → Connection → Handle → List ℕ → Row → Part
found_part get c h queue row = if is_destructive get.take then taking_part get.sync c queue row else silent (SetCursor c.number h.number row.place ∷ [])

abbrev pub got_answer : Bool → Got → Answer Got
got_answer true g = answers.Warning reasons.TruncatedMessageAccepted g
got_answer false g = answers.Ok g

-- the row fits, or is cut; or it stays free, and the cursor stays too
abbrev pub with_row : Bool → Get → Connection → Handle → List ℕ → Row → List Part → Step Reason GetAnswer
with_row true get c h queue row before = Do (Done (answers.Warning reasons.TruncatedMessageFailed (got get.room row.message))) before
with_row false get c h queue row before =
    Do (Done (got_answer (is_too_long get row.message) (got get.room row.message))) (before ++ found_part get c h queue row ∷ [])

-- the get may wait still
abbrev pub is_waiting : Option ℕ → Plain → Bool
is_waiting None p = false
is_waiting (Some until) p = nat_lt p.moment until

abbrev pub without_row : (under : Bool) → (waiting : Bool) → List Part → Step Reason GetAnswer
without_row true waiting before = Do (Done (answers.Failed reasons.NoMessageUnderCursor)) before
without_row false true before = say NotYet
without_row false false before = Do (Done (answers.Failed reasons.NoMessageAvailable)) before

abbrev pub get_found : Get → Option ℕ → Plain → Connection → Handle → List Part → Option Row → Step Reason GetAnswer
get_found get until p c h before None = without_row (is_under get.take) (is_waiting until p) before
get_found get until p c h before (Some row) = with_row (is_left get row.message) get c h (queue_at h.leads) row before

abbrev pub room_tests : Get → Connection → Scan → Plain → List (Test Reason)
room_tests get c s p = when (is_full (scan_need get c s) p) reasons.ResourceProblem ∷ []

abbrev pub get_scanned : Get → Option ℕ → Plain → Connection → Handle → Scan → Step Reason GetAnswer
get_scanned get until p c h s =
    tested (room_tests get c s p) (get_found get until p c h (expired_parts (queue_at h.leads) s.expired) s.found)

-- the refusals in their order
abbrev pub get_tests : Get → Plain → Connection → Handle → List (Test Reason)
get_tests get p c h =
    when h.stale reasons.ObjectChanged
    ∷ when (is_destructive get.take && not (is_input h.how.input)) reasons.NotOpenForInput
    ∷ when (needs_browse get.take && not h.how.browse) reasons.NotOpenForBrowse
    ∷ when (list_any (is_disabled_at p.definitions) h.path) reasons.GetInhibited
    ∷ when (is_destructive get.take && sync_full get.sync c p) reasons.SyncpointLimitReached
    ∷ []

abbrev pub get_handle : Get → Option ℕ → Plain → Connection → Handle → Step Reason GetAnswer
get_handle get until p c h = tested (get_tests get p c h)
    (get_scanned get until p c h (scanned get h p))

abbrev pub get_up : Hobj → Get → Option ℕ → Plain → Connection → Step Reason GetAnswer
get_up ho get until p c = for_handle (handle_at ho.number c.handles) (get_handle get until p c)

-- MQGET, from its connection and its handle on
abbrev pub mqget : Hconn → Hobj → Get → Option ℕ → Plain → Step Reason GetAnswer
mqget hc ho get until p = for_connection (connected hc p) (get_up ho get until p)
