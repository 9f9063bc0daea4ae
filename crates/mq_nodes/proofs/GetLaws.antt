-- A get whose deadline has come waits no more.
use Rattle.std.specs.Prelude.{◌≡◌, ℕ, nat_lt, Bool, true, false, List, Option, Some, None, Result, Ok, Err, refl}
use Rattle.mq_calls.specs.declared.answers.Get.{Get}
use Rattle.mq_calls.specs.declared.answers.GetAnswer.{GetAnswer}
use Rattle.mq_calls.specs.declared.answers.Hconn.{Hconn}
use Rattle.mq_calls.specs.declared.answers.Hobj.{Hobj}
use Rattle.mq_calls.specs.declared.state.Connection.{Connection}
use Rattle.mq_calls.specs.declared.state.Handle.{Handle}
use Rattle.mq_codes.specs.declared.reason.Reason.{Reason}
use Rattle.mq_queue.specs.declared.row.Row.{Row}
use Rattle.mq_calls.specs.State.{Plain}
use Rattle.mq_calls.specs.Steps.{Step, Part, refused_or, refusal}
use Rattle.mq_calls.specs.Reads.{handle_at}
use Rattle.mq_spec_network.specs.from_spec_manager.Handles.{for_connection, for_handle, connected}
use Rattle.mq_spec_network.specs.from_spec_manager.Get.{get_up, get_handle, get_scanned, get_found, get_tests, room_tests, with_row, without_row, is_under, is_left, expired_parts, scanned, mqget}
use Rattle.mq_spec_network.specs.from_spec_manager.Put.{queue_at}
use Rattle.mq_spec_network.specs.from_spec_node.Node.{Own}
use Rattle.mq_spec_network.specs.from_spec_node.Calls.{get_deed}
use Rattle.mq_spec_network.specs.from_spec_node.Lines.{is_none}

-- this is an event, whatever the node's own
abbrev Goes : Own → Step Reason GetAnswer → Type 0
Goes own s = is_none (get_deed own s) ≡ false

refused : (own : Own) (r : Option Reason) (s : Step Reason GetAnswer) → Goes own s → Goes own (refused_or r s)
refused own None s h = h
refused own (Some r) s h = refl

without : (own : Own) (under waits : Bool) (before : List Part) → waits ≡ false → Goes own (without_row under waits before)
without own true waits before h = refl
without own false true before h = absurd cc
without own false false before h = refl

with_one : (own : Own) (left : Bool) (get : Get) (c : Connection) (h : Handle) (queue : List ℕ) (row : Row) (before : List Part) → Goes own (with_row left get c h queue row before)
with_one own true get c h queue row before = refl
with_one own false get c h queue row before = refl

found : (own : Own) (get : Get) (u : ℕ) (p : Plain) (c : Connection) (h : Handle) (before : List Part) (row : Option Row) → nat_lt p.moment u ≡ false → Goes own (get_found get (Some u) p c h before row)
found own get u p c h before None e = without own (is_under get.take) (nat_lt p.moment u) before e
found own get u p c h before (Some row) e = with_one own (is_left get row.message) get c h (queue_at h.leads) row before

by_handle : (own : Own) (get : Get) (u : ℕ) (p : Plain) (c : Connection) (h : Option Handle) → nat_lt p.moment u ≡ false → Goes own (for_handle h (get_handle get (Some u) p c))
by_handle own get u p c None e = refl
by_handle own get u p c (Some h) e =
    refused own (refusal (get_tests get p c h)) (get_scanned get (Some u) p c h (scanned get h p))
    (refused own (refusal (room_tests get c (scanned get h p) p)) (get_found get (Some u) p c h (expired_parts (queue_at h.leads) (scanned get h p).expired) (scanned get h p).found)
    (found own get u p c h (expired_parts (queue_at h.leads) (scanned get h p).expired) (scanned get h p).found e))

by_connection : (own : Own) (ho : Hobj) (get : Get) (u : ℕ) (p : Plain) (c : Result Connection Reason) → nat_lt p.moment u ≡ false → Goes own (for_connection c (get_up ho get (Some u) p))
by_connection own ho get u p (Err reason) e = refl
by_connection own ho get u p (Ok c) e = by_handle own get u p c (handle_at ho.number c.handles) e

pub get_comes : (own : Own) (hc : Hconn) (ho : Hobj) (get : Get) (u : ℕ) (p : Plain) → nat_lt p.moment u ≡ false → is_none (get_deed own (mqget hc ho get (Some u) p)) ≡ false
get_comes own hc ho get u p e = by_connection own ho get u p (connected hc p) e
