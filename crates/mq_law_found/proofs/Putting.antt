-- Puts outside a unit whose write was stopped, and is found.
use Rattle.std.proofs.Common.{ℕ, ◌≡◌, Bool, true, false, List, [], ◌∷◌, refl, ap, sym, subst, ◌∙◌}
use Rattle.std.specs.Prelude.{Option, Some, None, Result, Ok, Err, if◌then◌else◌, is_some, ◌||◌}
use Rattle.mq_message.specs.declared.message.Ident.{Ident}
use Rattle.mq_message.specs.declared.message.Md.{Md}
use Rattle.mq_message.specs.declared.message.Message.{Message}
use Rattle.mq_codes.specs.declared.reason.Reason.{Reason}
use Rattle.mq_codes.specs.declared.reason.Reason.TheVariants as reasons
use Rattle.mq_disk.specs.declared.cutter.Stop.{Stop}
use Rattle.mq_objects.specs.Names.{local_of}
use Rattle.mq_resolve.specs.declared.route.Route.{Route}
use Rattle.mq_resolve.specs.Resolved.{resolve}
use Rattle.mq_calls.specs.declared.answers.Hconn.{Hconn}
use Rattle.mq_calls.specs.declared.answers.Hobj.{Hobj}
use Rattle.mq_calls.specs.declared.deltas.Did.TheVariants as did
use Rattle.mq_calls.specs.declared.records.LogRecord.{LogRecord}
use Rattle.mq_calls.specs.declared.records.LogRecord.TheVariants as records
use Rattle.mq_calls.specs.declared.state.Connection.{Connection}
use Rattle.mq_history.specs.declared.calls.Call.{Call}
use Rattle.mq_history.specs.declared.calls.Call.TheVariants as calls
use Rattle.mq_history.specs.declared.calls.Reply.TheVariants as replies
use Rattle.mq_calls.specs.State.{Plain, Noted}
use Rattle.mq_calls.specs.Reads.{connection_at, handle_at, is_persistent}
use Rattle.mq_calls.specs.Steps.{Part, when, do_part, volatile_gone, stands_in}
use Rattle.mq_spec_manager.specs.Handles.{connected, is_unfit}
use Rattle.mq_spec_manager.specs.Put.{mqput, mqput1, put_up, put_handle, put_route, put_part, put_step, put_tests, put1_resolved, handle_route, output_tests, output_only, queue_at, new_message, next_ident, sent_answer, is_high}
use Rattle.mq_spec_manager.specs.Stops.{redone, is_added}
use Rattle.mq_spec_network.specs.Ledger as ledgers
use Rattle.mq_spec_network.specs.Ledger.{Ledger, at_moment, post_call, places_or}
use Rattle.mq_law_events.proofs.from_law_rows.Lists.{same_self}
use Rattle.mq_law_manager.specs.Facts.{IsSound}
use Rattle.mq_law_manager.specs.Kept.{StepKeeps}
use Rattle.mq_law_manager.proofs.Stocks.{put_defined}
use Rattle.mq_law_manager.proofs.Untouched.{part_given}
use Rattle.mq_law_log.proofs.Landings.{placed_steady}
use Rattle.mq_law_events.specs.Tied.{connection_told, IsTold, Follow}
use Rattle.mq_law_events.proofs.Telling.{handle_at_told, one_handle}
use Rattle.mq_law_events.proofs.Putting.{put_follows}
use Rattle.mq_law_events.proofs.Events.{from_log, lives, put_by_is, some_connection}
use Rattle.mq_law_found.specs.Finds.{since, posted_again, stopped_call, PartNotes, StepNotes}
use Rattle.mq_law_found.proofs.Finding.{tested_with, live_with, open_with, one_noted, told_since, told_then, told_gone, timed_then, in_moment}
use Rattle.mq_law_found.proofs.Again.{steady_lasts, rises}

-- the record of a put adds its message
abbrev adds : Ident → Option LogRecord → Bool
adds i None = true
adds i (Some r) = is_added i r

or_true : (t b : Bool) → t ≡ true → (t || b) ≡ true
or_true t b e = ap (λ x. x || b) e

record_adds : (t : Bool) (queue : List ℕ) (m : Message) → adds m.ident (if t then Some (records.Unit (record { queue = queue; message = m } ∷ []) []) else None) ≡ true
record_adds true queue m = or_true _ false (same_self m.ident)
record_adds false queue m = refl

-- what a put posts, where it placed this
abbrev Posts : ℕ → Call → Hconn → Connection → Route → Md → List ℕ → Plain → Type 0
Posts m call hc c route md body p = (l : Ledger) (by : Stop) → IsTold m p l
    → post_call m call (replies.Stopped by) [] (did.Placed (queue_at route.end) (next_ident p) None ∷ []) l ≡ ledgers.put_by false m hc (connection_told c) route (next_ident p) md body l

put_noted : (m : ℕ) (call : Call) (p : Plain) (hc : Hconn) (c : Connection) (route : Route) (md : Md) (body : List ℕ) → IsSound p → is_some (local_of (queue_at route.end) p.definitions) ≡ true
    → IsSound (do_part (put_part false c (queue_at route.end) (new_message c route md body p)) p) → Posts m call hc c route md body p
    → PartNotes m call p.moment p (put_part false c (queue_at route.end) (new_message c route md body p))
put_noted m call p hc c route md body h there sound posts r e chance by_ ds forced =
    let q : List ℕ = queue_at route.end in
    let message : Message = new_message c route md body p in
    let part : Part = put_part false c q message in
    let n : Noted = record { written = r; changes = part.changes; delta = part.delta } in
    let s : ledgers.Stopped = stopped_call e call chance by_ ds p.moment in
    let lasts_ : is_added message.ident r ≡ true = sym (ap (adds message.ident) forced) ∙ record_adds (is_persistent message) q message in
    record {
      followed = λ given running moment log l fresh told.
          let down : Plain = since (volatile_gone p) running moment log in
          let at_put : Ledger = at_moment m p.moment l in
          let here : IsTold m p l = told_gone m p running moment log l told in
          let was : IsTold m p at_put = told_then m p.moment p l here in
          let is : post_call m call (replies.Stopped by_) [] part.delta at_put ≡ ledgers.place m q message at_put = posts at_put by_ was ∙ put_by_is m p at_put false hc c route md body was (timed_then m p l here) in
          let inner : Follow m given down at_put (redone n down) (ledgers.place m q message at_put) = from_log m given down (redone n down) (stands_in r log) at_put (ledgers.place m q message at_put)
          (put_follows m given (record down { log = stands_in r log }) at_put q message fresh (told_then m p.moment (record down { log = stands_in r log }) l (told_since m down running moment (stands_in r log) l told)) refl) in
          subst (λ (t : Bool). Follow m given down l (redone n down) (posted_again m s (if t then did.Placed q message.ident None ∷ [] else []) l)) (sym lasts_)
          (in_moment m p.moment given down (redone n down) l (post_call m call (replies.Stopped by_) [] part.delta at_put) told
          (subst (λ (k : Ledger). Follow m given down at_put (redone n down) k) (sym is) inner));
      sound = rises n p (do_part part p) sound (part_given part p)
          (λ running moment log. steady_lasts part.changes p part.forced running moment log h (tt, placed_steady q message p (h.stocked.placed q there)));
      quiet = refl;
    }

-- a put in a unit forces nothing
unit_noted : (m : ℕ) (call : Call) (p : Plain) (c : Connection) (q : List ℕ) (message : Message) → PartNotes m call p.moment p (put_part true c q message)
unit_noted m call p c q message r e chance by_ ds forced = absurd cc

route_noted : (m : ℕ) (call : Call) (p : Plain) (hc : Hconn) (c : Connection) (route : Route) (md : Md) (body : List ℕ) (sync : Bool) → IsSound p → (sync ≡ false → Posts m call hc c route md body p)
    → StepKeeps IsSound (put_route c route md body sync p) p → StepNotes m call p (put_route c route md body sync p)
route_noted m call p hc c route md body sync h posts =
    tested_with (λ step. StepKeeps IsSound step p → StepNotes m call p step) (λ r k. tt) (put_tests c route md body sync (new_message c route md body p) p) (put_step c route md sync (new_message c route md body p))
    (λ e k. one_noted Reason m call p (sent_answer (is_high md.priority) (new_message c route md body p)) (put_part sync c (queue_at route.end) (new_message c route md body p)) (go sync posts (put_defined c route md body sync (new_message c route md body p) p e) k.0))
  where
    go : (sync : Bool) → (sync ≡ false → Posts m call hc c route md body p) → is_some (local_of (queue_at route.end) p.definitions) ≡ true → IsSound (do_part (put_part sync c (queue_at route.end) (new_message c route md body p)) p)
        → PartNotes m call p.moment p (put_part sync c (queue_at route.end) (new_message c route md body p))
    go true posts there k = unit_noted m call p c (queue_at route.end) (new_message c route md body p)
    go false posts there k = put_noted m call p hc c route md body h there k (posts refl)

pub puts_noted : (m : ℕ) (p : Plain) (hc : Hconn) (ho : Hobj) (md : Md) (body : List ℕ) (sync : Bool) → IsSound p → StepKeeps IsSound (mqput hc ho md body sync p) p → StepNotes m (calls.Mqput hc ho md body sync) p (mqput hc ho md body sync p)
puts_noted m p hc ho md body sync h =
    let call : Call = calls.Mqput hc ho md body sync in
    live_with (λ step. StepKeeps IsSound step p → StepNotes m call p step) (λ r k. tt) (connected hc p) (put_up ho md body sync p) (λ c e.
    let live = lives hc c p e in
    open_with (λ step. StepKeeps IsSound step p → StepNotes m call p step) (λ r k. tt) (handle_at ho.number c.handles) (put_handle md body sync p c) (λ x e2.
    tested_with (λ step. StepKeeps IsSound step p → StepNotes m call p step) (λ r k. tt) (output_tests x) (put_route c (handle_route x) md body sync p) (λ e3.
    route_noted m call p hc c (handle_route x) md body sync h (λ z l by_ t.
    (λ i. ledgers.put (z i) m hc ho (some_connection m p l hc c t live i) (Some (next_ident p)) md body l)
    ∙ ap (λ o. ledgers.put_through false m hc (connection_told c) o (next_ident p) md body l) (handle_at_told ho.number c.handles ∙ ap one_handle e2)))))

pub puts_once_noted : (m : ℕ) (p : Plain) (hc : Hconn) (name qmgr : List ℕ) (md : Md) (body : List ℕ) (sync : Bool) → IsSound p → StepKeeps IsSound (mqput1 hc name qmgr md body sync p) p
    → StepNotes m (calls.Mqput1 hc name qmgr md body sync) p (mqput1 hc name qmgr md body sync p)
puts_once_noted m p hc name qmgr md body sync h =
    live_with (λ step. StepKeeps IsSound step p → StepNotes m (calls.Mqput1 hc name qmgr md body sync) p step) (λ r k. tt) (connected hc p) (put1_resolved (resolve p.definitions p.given.name name qmgr) md body sync p)
    (λ c e. go c (lives hc c p e) (resolve p.definitions p.given.name name qmgr) refl)
  where
    go : (c : Connection) → connection_at hc.number p.connections ≡ Some c → (r : Result Route Reason) → resolve p.definitions p.given.name name qmgr ≡ r
        → StepKeeps IsSound (put1_resolved r md body sync p c) p → StepNotes m (calls.Mqput1 hc name qmgr md body sync) p (put1_resolved r md body sync p c)
    go c live (Err reason) is = λ k. tt
    go c live (Ok route) is =
        tested_with (λ step. StepKeeps IsSound step p → StepNotes m (calls.Mqput1 hc name qmgr md body sync) p step) (λ r k. tt) (when (is_unfit output_only route.end p) reasons.OptionNotValidForType ∷ []) (put_route c route md body sync p) (λ e.
        route_noted m (calls.Mqput1 hc name qmgr md body sync) p hc c route md body sync h (λ z l by_ t.
        (λ i. ledgers.put1 (z i) m hc name qmgr (some_connection m p l hc c t live i) (Some (next_ident p)) md body l)
        ∙ ap (λ r. ledgers.put1_by false m hc (connection_told c) r (next_ident p) md body l)
        (ap (λ o. resolve (places_or o).definitions (places_or o).name name qmgr) t.placed ∙ (λ i. resolve (t.definitions i) (t.name i) name qmgr) ∙ is)))
