-- Rows and uncommitted puts stay on queues that are defined: by calls.
use Rattle.std.proofs.Common.{ℕ, ◌≡◌, ◌≢◌, Bool, true, false, List, [], ◌∷◌, ◌++◌, refl, ap, sym, subst, ◌∙◌, length, map, take, inl, inr}
use Rattle.std.specs.Prelude.{Option, Some, None, Result, Ok, Err, is_some, if◌then◌else◌, not, nat_le, ◌==◌, ◌||◌, ◌&&◌, flat_map, filter, find}
use Rattle.mq_codes.specs.declared.reason.Reason.{Reason}
use Rattle.mq_codes.specs.declared.reason.Reason.TheVariants as reasons
use Rattle.mq_message.specs.declared.message.Ident.{Ident}
use Rattle.mq_message.specs.declared.message.Dest.{Dest}
use Rattle.mq_message.specs.declared.message.Md.{Md}
use Rattle.mq_message.specs.declared.message.Message.{Message}
use Rattle.mq_queue.specs.declared.row.Row.{Row}
use Rattle.mq_queue.specs.Rows.{same_ident, has_ident, is_free, held_by}
use Rattle.mq_objects.specs.declared.object.LocalQueue.{LocalQueue}
use Rattle.mq_objects.specs.declared.object.Process.{Process}
use Rattle.mq_objects.specs.declared.object.Definitions.{Definitions}
use Rattle.mq_objects.specs.declared.object.Object.{Object}
use Rattle.mq_objects.specs.declared.object.Object.TheVariants as objects
use Rattle.mq_objects.specs.Names.{queue_of, as_local, local_of, locals_of, channel_of, process_of, is_transmission}
use Rattle.mq_calls.specs.from_resolve.{Route}
use Rattle.mq_calls.specs.from_resolve.Resolved.{resolve}
use Rattle.mq_sync.specs.declared.unit.Unit.{Unit as Luw}
use Rattle.mq_sync.specs.declared.data.ReceiverData.{ReceiverData}
use Rattle.mq_sync.specs.declared.data.InDoubt.{InDoubt}
use Rattle.mq_message.specs.declared.place.Holder.{Holder}
use Rattle.mq_sync.specs.declared.data.End.TheVariants as ends
use Rattle.mq_sync.specs.Settlement.{sender_or, receiver_or, data_prepared}
use Rattle.mq_calls.specs.declared.answers.Hconn.{Hconn}
use Rattle.mq_calls.specs.declared.answers.Hobj.{Hobj}
use Rattle.mq_calls.specs.declared.answers.Open.{Open}
use Rattle.mq_calls.specs.declared.answers.Appl.{Appl}
use Rattle.mq_calls.specs.declared.answers.Get.{Get}
use Rattle.mq_calls.specs.declared.agents.Note.{Note}
use Rattle.mq_calls.specs.declared.agents.Note.TheVariants as notes
use Rattle.mq_calls.specs.declared.agents.PrepareFault.TheVariants as prepare_faults
use Rattle.mq_calls.specs.declared.agents.SeizeFault.TheVariants as seize_faults
use Rattle.mq_calls.specs.declared.deltas.Why.{Why}
use Rattle.mq_calls.specs.declared.deltas.Why.TheVariants as whys
use Rattle.mq_calls.specs.declared.records.Add.{Add}
use Rattle.mq_calls.specs.declared.records.LogRecord.{LogRecord}
use Rattle.mq_calls.specs.declared.state.Item.{Item}
use Rattle.mq_calls.specs.declared.state.Item.TheVariants.{Put, Take}
use Rattle.mq_calls.specs.State.{Plain, Change, Running, LogState}
use Rattle.mq_calls.specs.declared.state.Connection.{Connection}
use Rattle.mq_calls.specs.declared.state.Handle.{Handle}
use Rattle.mq_calls.specs.declared.state.Batch.{Batch}
use Rattle.mq_calls.specs.declared.state.SenderSide.{SenderSide}
use Rattle.mq_calls.specs.State.Running.{Up, Down}
use Rattle.mq_calls.specs.State.Change.{Place as Places, Connect, OpenHandle, CloseHandle, SetCursor, Undoubt, EndUnit, Disconnect, Hold, Leave, Release, SetSender, SetReceiver, Seize, Unseize, SetBound, AddBatch, DropBatch, ForgetAll}
use Rattle.mq_calls.specs.State.Which.{Among, HeldBy, HeldByUnits, Nonpersistent}
use Rattle.mq_message.specs.declared.place.Holder.TheVariants as holders
use Rattle.mq_sync.specs.declared.data.SenderData.{SenderData}
use Rattle.mq_calls.specs.Reads.{free_rows, sender_in, sender_data, connection_at, handle_at, stored, depth, is_int, is_up, is_full, is_open_for_input, has_held_by_other, batch_of, in_doubt_of, receiver_data, is_persistent, is_by_unit}
use Rattle.mq_calls.specs.Condition.{condition}
use Rattle.mq_calls.specs.Changes.{apply, apply_all, selects, release_if, less_ident, off_list, off_lists}
use Rattle.mq_calls.specs.Sizes.{need}
use Rattle.mq_calls.specs.Steps.{Step, Part, Test, when, tested, refused_or, refusal, going_on, passed, none_of, silent, logged, written, do_part, do_all}
use Rattle.mq_calls.specs.Steps.Step.{Do}
use Rattle.mq_spec_manager.specs.Handles.{new_connection, new_handle, connected, for_connection, for_handle, mqconn, mqopen, mqclose, close_up, close_handle, conn_tests, open_tests, open_step, option_tests, is_unfit, is_in_use, is_transmission_queue}
use Rattle.mq_spec_manager.specs.Put.{mqput, mqput1, put_up, put_handle, put_route, put_part, put1_resolved, new_message, put_tests, put_step, queue_at, dest_at, next_ident, output_tests, handle_route, output_only, placed, unit_record, inhibited_tests, length_tests, full_tests, placing_tests, sync_full, log_full, is_bad_expiry, is_blank}
use Rattle.mq_spec_manager.specs.Get.{idents_of, mqget, get_up, get_handle, get_scanned, get_found, get_tests, room_tests, scanned, with_row, without_row, is_waiting, is_under, is_left, is_destructive, found_part, taking_part, removal_part, removal_parts, expired_parts}
use Rattle.mq_spec_manager.specs.Units.{taken_item, freed_item, placed_item, commit_changes, commit_part, backout_part, mqcmit, mqback, mqdisc}
use Rattle.mq_spec_manager.specs.Triggers.{trigger_turn, trigger_at, serve, serve_by, serve_into, put_trigger, takes_it, first_due, route_to}
use Rattle.mq_spec_manager.specs.Stops.{stop, stop_at, stop_changes, release_batch as batch_release}
use Rattle.mq_spec_manager.specs.Agents.{seize, leave, set_bound, channel_queue, expire, expired_rows, queue_of_sender, hold_batch, release_batch, release_of, prepare, prepare_of, prepared_record, prepared_doubt, harden, harden_part, discard, move_row, move_found, move_resolved, move_part, moved_forced, Landing, landing, bare_if, route_tests, move_full, Standing, Absent, InDoubtAt, Present, standing_at, is_present, drop_changes, undoubted, is_unborn, CanMove, land, land_changes, Landed, before, landed_by, landed_unless, landed, received_record, received_part, receive, receive_landed}
use Rattle.mq_law_manager.specs.View.{View, Taken, view, puts_in, takes_in, items_of}
use Rattle.mq_law_manager.specs.Seen.{freed_if}
use Rattle.mq_calls.specs.Recovery.{routes}
use Rattle.std.specs.Str.{bytes_eq}
use Rattle.mq_law_manager.specs.Facts.{Mem, Sound, IsStocked, IsFit, IsUnlisted, AreSorted, listed}
use Rattle.mq_law_manager.specs.Kept.{Releases, IsListable, AllAsk, PartsAsk, StepKeeps}
use Rattle.mq_law_manager.proofs.Lists.{bool_case, is_false, ident_yes, same_self, one_row, mem_retag}
use Rattle.mq_law_manager.proofs.Puts.{next_unborn}
use Rattle.mq_law_manager.proofs.Named.{name_is, name_self}
use Rattle.mq_law_manager.proofs.SeenLaws.{applied}
use Rattle.mq_law_manager.proofs.Removals.{mem_filter}
use Rattle.mq_law_manager.proofs.Handling.{is_loose, find_mem}
use Rattle.mq_law_manager.proofs.Routes.{map_mem, one_side, side_found, set_there, tried_senders}
use Rattle.mq_law_manager.proofs.BatchLaws.{the_batch}
use Rattle.mq_law_manager.proofs.Commanding.{object_name}
use Rattle.mq_law_manager.proofs.Resolving.{route_stands, route_fits, end_routed, handle_led}
use Rattle.mq_law_manager.proofs.Units.{behind, is_live, live_logged}
use Rattle.mq_law_manager.proofs.Shelves.{stays, all_stay, parts_stay, part_stays, logged_stays, same_all, asks_append, logged_definitions}
use Rattle.mq_law_manager.proofs.Receiving.{placing_defined, first_passes, refusal_behind, has_depth, land_is, IsLanding, log_aside}

-- A call as it is read

pub live_on : {T : Type 0} (P : Plain → Type 0) (r : Result Connection Reason) (f : Connection → Step Reason T) (p : Plain) → ((c : Connection) → r ≡ Ok c → StepKeeps P (f c) p) → StepKeeps P (for_connection r f) p
live_on P (Ok c) f p k = k c refl
live_on P (Err reason) f p k = tt

pub open_on : {T : Type 0} (P : Plain → Type 0) (o : Option Handle) (f : Handle → Step Reason T) (p : Plain) → ((h : Handle) → StepKeeps P (f h) p) → StepKeeps P (for_handle o f) p
open_on P None f p k = tt
open_on P (Some h) f p k = k h

pub tested_on : {F T : Type 0} (P : Plain → Type 0) (ts : List (Test F)) (s : Step F T) (p : Plain) → (refusal ts ≡ None → StepKeeps P s p) → StepKeeps P (tested ts s) p
tested_on {F} {T} P ts s p k = at (refusal ts) refl
  where
    at : (o : Option F) → refusal ts ≡ o → StepKeeps P (refused_or o s) p
    at None e = k e
    at (Some reason) e = tt

pub going : {A F T : Type 0} (P : Plain → Type 0) (r : Result A F) (rest : A → Step F T) (p : Plain) → ((x : A) → StepKeeps P (rest x) p) → StepKeeps P (going_on r rest) p
going P (Err reason) rest p k = tt
going P (Ok x) rest p k = k x

-- the same, of what was found
went : {A F T : Type 0} (P : Plain → Type 0) (r : Result A F) (rest : A → Step F T) (p : Plain) → ((x : A) → r ≡ Ok x → StepKeeps P (rest x) p) → StepKeeps P (going_on r rest) p
went P (Err reason) rest p k = tt
went P (Ok x) rest p k = k x refl

found_on : {T : Type 0} (P : Plain → Type 0) (o : Option Handle) (f : Handle → Step Reason T) (p : Plain) → ((h : Handle) → o ≡ Some h → StepKeeps P (f h) p) → StepKeeps P (for_handle o f) p
found_on P None f p k = tt
found_on P (Some h) f p k = k h refl

pub passes : {F : Type 0} (ts : List (Test F)) → none_of ts ≡ Ok tt → refusal ts ≡ None
passes {F} ts e = at (refusal ts) e
  where
    at : (o : Option F) → passed o ≡ Ok tt → o ≡ None
    at None e = refl
    at (Some reason) e = absurd cc

-- one that is found by its number is there
pub connection_mem : (n : ℕ) (cs : List Connection) (c : Connection) → connection_at n cs ≡ Some c → Mem c cs
connection_mem n [] c e = absurd cc
connection_mem n (x ∷ xs) c e = bool_case (x.number == n) (λ b. (if b then Some x else connection_at n xs) ≡ Some c → Mem c (x ∷ xs)) (λ z w. inl (sym cc)) (λ z w. inr (connection_mem n xs c w)) e

pub handle_mem : (n : ℕ) (hs : List Handle) (h : Handle) → handle_at n hs ≡ Some h → Mem h hs
handle_mem n [] h e = absurd cc
handle_mem n (x ∷ xs) h e = bool_case (x.number == n) (λ b. (if b then Some x else handle_at n xs) ≡ Some h → Mem h (x ∷ xs)) (λ z w. inl (sym cc)) (λ z w. inr (handle_mem n xs h w)) e

-- a handle that output passes
pub output_passes : (h : Handle) → refusal (output_tests h) ≡ None → (h.stale ≡ false) × (h.how.output ≡ true)
output_passes h e = bool_case h.stale (λ b. h.stale ≡ b → (if b then Some reasons.ObjectChanged else refusal (when (not h.how.output) reasons.NotOpenForOutput ∷ [])) ≡ None → (h.stale ≡ false) × (h.how.output ≡ true))
    (λ z w f. absurd cc)
    (λ z w f. (w, bool_case h.how.output (λ b. (if not b then Some reasons.NotOpenForOutput else None) ≡ None → b ≡ true) (λ y g. refl) (λ y g. absurd cc) f)) refl e

-- Connections and handles

pub conn_stocked : (qmgr : List ℕ) (appl : Appl) (p : Plain) → IsStocked p → StepKeeps IsStocked (mqconn qmgr appl p) p
conn_stocked qmgr appl p s = tested_on IsStocked (conn_tests qmgr p) _ p (λ e. (stays (Connect (new_connection appl p)) p (refl, refl) s, tt))

pub open_stocked : (hc : Hconn) (name qmgr : List ℕ) (how : Open) (p : Plain) → IsStocked p → StepKeeps IsStocked (mqopen hc name qmgr how p) p
open_stocked hc name qmgr how p s = going IsStocked (connected hc p) _ p (λ c. going IsStocked (none_of (option_tests how)) _ p (λ u. went IsStocked (resolve p.definitions p.given.name name qmgr) _ p
    (λ route is. went IsStocked (none_of (open_tests c how route p)) (λ fits. open_step c how route) p
    (λ w e. (
      stays (OpenHandle c.number (new_handle how route c)) p (λ z. handle_led how route c p name qmgr is (first_passes (is_unfit how route.end p) reasons.OptionNotValidForType
          (when (is_in_use how route.end p) reasons.ObjectInUse ∷ when (nat_le p.definitions.manager.max_handles (length c.handles)) reasons.HandleNotAvailable ∷ []) (passes (open_tests c how route p) e))) s,
      tt,
    )))))

pub close_stocked : (hc : Hconn) (ho : Hobj) (p : Plain) → IsStocked p → StepKeeps IsStocked (mqclose hc ho p) p
close_stocked hc ho p s = live_on IsStocked (connected hc p) (close_up ho) p (λ c e. open_on IsStocked (handle_at ho.number c.handles) (close_handle c) p (λ x. (stays (CloseHandle c.number x.number) p tt s, tt)))

-- Puts

placed_asks : (queue : List ℕ) (m : Message) (p : Plain) → IsFit (local_of queue p.definitions) m → (is_persistent m ≡ true → IsUnlisted m.ident p.channels.senders) → AllAsk (placed queue m) p
placed_asks queue m p e u = ((e, u), (tt, tt))

logged_senders : (r : Option LogRecord) (p : Plain) → (logged r p).channels.senders ≡ p.channels.senders
logged_senders None p = refl
logged_senders (Some r) p = refl

-- a put that is not refused is to a queue that is defined
pub first : (xs ys : List (Test Reason)) → refusal (xs ++ ys) ≡ None → refusal xs ≡ None
first [] ys e = refl
first (x ∷ xs) ys e = bool_case x.applies (λ b. (if b then Some x.reason else refusal (xs ++ ys)) ≡ None → (if b then Some x.reason else refusal xs) ≡ None) (λ z f. absurd cc) (λ z f. first xs ys f) e

pub put_defined : (c : Connection) (route : Route) (md : Md) (body : List ℕ) (sync : Bool) (m : Message) (p : Plain) → refusal (put_tests c route md body sync m p) ≡ None → is_some (local_of (queue_at route.end) p.definitions) ≡ true
put_defined c route md body sync m p e =
    let q : List ℕ = queue_at route.end in
    let full : List (Test Reason) = full_tests q p ++ when (log_full sync c m p) reasons.ResourceProblem ∷ [] in
    let most : List (Test Reason) = when (sync_full sync c p) reasons.SyncpointLimitReached ∷ full in
    has_depth (local_of q p.definitions) (depth q p) (first (full_tests q p) (when (log_full sync c m p) reasons.ResourceProblem ∷ [])
    (refusal_behind (when (sync_full sync c p) reasons.SyncpointLimitReached ∷ []) full
    (refusal_behind (length_tests q (length body) p) most
    (refusal_behind (inhibited_tests route.path p) (length_tests q (length body) p ++ most)
    (refusal_behind (when (is_bad_expiry md.expiry) reasons.ExpiryError ∷ when (is_int 1 md.msg_type && is_blank md.reply_to_q) reasons.MissingReplyToQueue ∷ []) (inhibited_tests route.path p ++ length_tests q (length body) p ++ most) e)))))

put_part_stocked : (sync : Bool) (c : Connection) (queue : List ℕ) (m : Message) (p : Plain) → IsFit (local_of queue p.definitions) m → IsUnlisted m.ident p.channels.senders → connection_at c.number p.connections ≡ Some c → IsStocked p → IsStocked (do_part (put_part sync c queue m) p)
put_part_stocked true c queue m p d u live s = part_stays (put_part true c queue m) p (tt, ((d, (c, live), u), tt)) s
put_part_stocked false c queue m p d u live s =
    part_stays (put_part false c queue m) p (tt, ((subst (λ (x : Definitions). IsFit (local_of queue x) m) (sym (logged_definitions (unit_record queue m) p)) d, λ e. subst (IsUnlisted m.ident) (sym (logged_senders (unit_record queue m) p)) u), (tt, tt))) s

route_stocked : (c : Connection) (route : Route) (md : Md) (body : List ℕ) (sync : Bool) (p : Plain) → is_some (dest_at route.end) ≡ routes (local_of (queue_at route.end) p.definitions) → connection_at c.number p.connections ≡ Some c → IsStocked p → StepKeeps IsStocked (put_route c route md body sync p) p
route_stocked c route md body sync p routed live s = tested_on IsStocked (put_tests c route md body sync (new_message c route md body p) p) (put_step c route md sync (new_message c route md body p)) p
    (λ e. (put_part_stocked sync c (queue_at route.end) (new_message c route md body p) p (put_defined c route md body sync (new_message c route md body p) p e, routed) (s.routed.given (next_ident p) (next_unborn p)) live s, tt))

pub put_stocked : (hc : Hconn) (ho : Hobj) (md : Md) (body : List ℕ) (sync : Bool) (p : Plain) → IsStocked p → StepKeeps IsStocked (mqput hc ho md body sync p) p
put_stocked hc ho md body sync p s = live_on IsStocked (connected hc p) (put_up ho md body sync p) p (λ c e. found_on IsStocked (handle_at ho.number c.handles) (put_handle md body sync p c) p
    (λ x f. tested_on IsStocked (output_tests x) (put_route c (handle_route x) md body sync p) p (λ z.
    let o = output_passes x z in
    route_stocked c (handle_route x) md body sync p ((s.routed.led c x (connection_mem c.number p.connections c (is_live hc c p e)) (handle_mem ho.number c.handles x f) o.0).routed o.1) (is_live hc c p e) s)))

put1_of : (name qmgr : List ℕ) (r : Result Route Reason) (md : Md) (body : List ℕ) (sync : Bool) (p : Plain) (c : Connection) → resolve p.definitions p.given.name name qmgr ≡ r → connection_at c.number p.connections ≡ Some c → IsStocked p → StepKeeps IsStocked (put1_resolved r md body sync p c) p
put1_of name qmgr (Err reason) md body sync p c is live s = tt
put1_of name qmgr (Ok route) md body sync p c is live s = tested_on IsStocked (when (is_unfit output_only route.end p) reasons.OptionNotValidForType ∷ []) (put_route c route md body sync p) p
    (λ z. route_stocked c route md body sync p (end_routed output_only route.end p (first_passes (is_unfit output_only route.end p) reasons.OptionNotValidForType [] z) refl (route_stands p name qmgr route is).0) live s)

pub put1_stocked : (hc : Hconn) (name qmgr : List ℕ) (md : Md) (body : List ℕ) (sync : Bool) (p : Plain) → IsStocked p → StepKeeps IsStocked (mqput1 hc name qmgr md body sync p) p
put1_stocked hc name qmgr md body sync p s = live_on IsStocked (connected hc p) (put1_resolved (resolve p.definitions p.given.name name qmgr) md body sync p) p
    (λ c e. put1_of name qmgr (resolve p.definitions p.given.name name qmgr) md body sync p c refl (is_live hc c p e) s)

-- Gets

pub removals_ask : (why : Why) (q : List ℕ) (rows : List Row) (p : Plain) → PartsAsk (removal_parts why q rows) p
removals_ask why q [] p = tt
removals_ask why q (r ∷ rows) p = ((tt, tt), tt)

parts_append : (xs ys : List Part) (p : Plain) → PartsAsk xs p → PartsAsk ys (do_all xs p) → PartsAsk (xs ++ ys) p
parts_append [] ys p a b = b
parts_append (x ∷ xs) ys p a b = (a.0, parts_append xs ys (do_part x p) a.1 b)

live_behind : (why : Why) (q : List ℕ) (rows : List Row) (p : Plain) (c : Connection) → connection_at c.number p.connections ≡ Some c → connection_at c.number (do_all (removal_parts why q rows) p).connections ≡ Some c
live_behind why q [] p c live = live
live_behind why q (r ∷ rows) p c live = live_logged c.number c p (removal_part why q (r ∷ rows)).forced live

found_asks : (get : Get) (c : Connection) (h : Handle) (q : List ℕ) (r : Row) (p : Plain) → connection_at c.number p.connections ≡ Some c → PartsAsk (found_part get c h q r ∷ []) p
found_asks get c h q r p live = bool_case (is_destructive get.take) (λ b. PartsAsk ((if b then taking_part get.sync c q r else silent (SetCursor c.number h.number r.place ∷ [])) ∷ []) p) (λ e. at get.sync) (λ e. ((tt, tt), tt))
  where
    at : (sync : Bool) → PartsAsk (taking_part sync c q r ∷ []) p
    at true = ((tt, ((c, live), tt)), tt)
    at false = ((tt, tt), tt)

with_stocked : (cut : Bool) (get : Get) (c : Connection) (h : Handle) (q : List ℕ) (r : Row) (rows : List Row) (p : Plain) → connection_at c.number p.connections ≡ Some c → IsStocked p → StepKeeps IsStocked (with_row cut get c h q r (expired_parts q rows)) p
with_stocked true get c h q r rows p live s = parts_stay (expired_parts q rows) p (removals_ask whys.Expired q rows p) s
with_stocked false get c h q r rows p live s = parts_stay (expired_parts q rows ++ found_part get c h q r ∷ []) p
    (parts_append (expired_parts q rows) (found_part get c h q r ∷ []) p (removals_ask whys.Expired q rows p) (found_asks get c h q r (do_all (expired_parts q rows) p) (live_behind whys.Expired q rows p c live))) s

without_stocked : (under waiting : Bool) (q : List ℕ) (rows : List Row) (p : Plain) → IsStocked p → StepKeeps IsStocked (without_row under waiting (expired_parts q rows)) p
without_stocked true waiting q rows p s = parts_stay (expired_parts q rows) p (removals_ask whys.Expired q rows p) s
without_stocked false true q rows p s = tt
without_stocked false false q rows p s = parts_stay (expired_parts q rows) p (removals_ask whys.Expired q rows p) s

found_stocked : (get : Get) (until : Option ℕ) (p : Plain) (c : Connection) (h : Handle) (q : List ℕ) (rows : List Row) (o : Option Row) → q ≡ queue_at h.leads → connection_at c.number p.connections ≡ Some c → IsStocked p
    → StepKeeps IsStocked (get_found get until p c h (expired_parts q rows) o) p
found_stocked get until p c h q rows None is live s = without_stocked (is_under get.take) (is_waiting until p) q rows p s
found_stocked get until p c h q rows (Some r) is live s = subst (λ (n : List ℕ). StepKeeps IsStocked (with_row (is_left get r.message) get c h n r (expired_parts q rows)) p) is (with_stocked (is_left get r.message) get c h q r rows p live s)

pub get_stocked : (hc : Hconn) (ho : Hobj) (get : Get) (until : Option ℕ) (p : Plain) → IsStocked p → StepKeeps IsStocked (mqget hc ho get until p) p
get_stocked hc ho get until p s = live_on IsStocked (connected hc p) (get_up ho get until p) p (λ c e. open_on IsStocked (handle_at ho.number c.handles) (get_handle get until p c) p
    (λ x. tested_on IsStocked (get_tests get p c x) (get_scanned get until p c x (scanned get x p)) p
    (λ z. tested_on IsStocked (room_tests get c (scanned get x p) p) (get_found get until p c x (expired_parts (queue_at x.leads) (scanned get x p).expired) (scanned get x p).found) p
    (λ y. found_stocked get until p c x (queue_at x.leads) (scanned get x p).expired (scanned get x p).found refl (is_live hc c p e) s))))

-- Units

takes_ask : (items : List Item) (p : Plain) → AllAsk (flat_map taken_item items) p
takes_ask [] p = tt
takes_ask (Put q m ∷ items) p = takes_ask items p
takes_ask (Take q i b ∷ items) p = (tt, takes_ask items _)

-- a row that no batch holds
abbrev IsLoose : List ℕ → Ident → Plain → Type 0
IsLoose q i p = (d : List ℕ) (h : Row) → Mem h ((view p).rows d) → selects (Among q (i ∷ [])) d h ≡ true → (c : List ℕ) → h.by ≢ Some (holders.Batch c)

freed_loose : (b : Bool) (q : List ℕ) (i : Ident) (d : List ℕ) (row : Row) (c : List ℕ) → (selects (Among q (i ∷ [])) d row ≡ true → row.by ≢ Some (holders.Batch c)) → selects (Among q (i ∷ [])) d (release_if b true row) ≡ true → (release_if b true row).by ≢ Some (holders.Batch c)
freed_loose true q i d row c f e = λ z. cc z
freed_loose false q i d row c f e = f e

loose_behind : (q from : List ℕ) (i other : Ident) (p : Plain) → IsLoose q i p → IsLoose q i (apply (Release (Among from (other ∷ [])) true) p)
loose_behind q from i other p f d h m e c =
    let o = mem_retag (freed_if (Among from (other ∷ [])) true d) h ((view p).rows d) (subst (λ (v : View). Mem h (v.rows d)) (applied (Release (Among from (other ∷ [])) true) p tt) m) in
    subst (λ (r : Row). r.by ≢ Some (holders.Batch c)) (sym o.2) (freed_loose (selects (Among from (other ∷ [])) d o.0 && not (is_free o.0)) q i d o.0 c (λ w. f d o.0 o.1 w c)
    (ap (λ (r : Row). selects (Among q (i ∷ [])) d r) (sym o.2) ∙ e))

abbrev AreLoose : List Item → Plain → Type 0
AreLoose [] p = Unit {0}
AreLoose (Put q m ∷ items) p = AreLoose items p
AreLoose (Take q i b ∷ items) p = IsLoose q i p × AreLoose items p

all_loose_behind : (from : List ℕ) (other : Ident) (items : List Item) (p : Plain) → AreLoose items p → AreLoose items (apply (Release (Among from (other ∷ [])) true) p)
all_loose_behind from other [] p h = tt
all_loose_behind from other (Put q m ∷ items) p h = all_loose_behind from other items p h
all_loose_behind from other (Take q i b ∷ items) p h = (loose_behind q from i other p h.0, all_loose_behind from other items p h.1)

frees_ask : (items : List Item) (p : Plain) → AreLoose items p → AllAsk (flat_map freed_item items) p
frees_ask [] p h = tt
frees_ask (Put q m ∷ items) p h = frees_ask items p h
frees_ask (Take q i b ∷ items) p h = (λ d x s m e k l. h.0 d x m e s.channel, frees_ask items (apply (Release (Among q (i ∷ [])) true) p) (all_loose_behind q i items p h.1))

pub both_among : (a b : Bool) → (a && (b || false)) ≡ true → (a ≡ true) × (b ≡ true)
both_among true true e = (refl, refl)
both_among true false e = absurd cc
both_among false b e = absurd cc

-- rows that a unit has got are its own
unit_loose : (n : ℕ) (items : List Item) (p : Plain) → Sound p → ((t : Taken) → Mem t (takes_in items) → Mem t ((view p).takes n)) → AreLoose items p
unit_loose n [] p h f = tt
unit_loose n (Put q m ∷ items) p h f = unit_loose n items p h f
unit_loose n (Take q i b ∷ items) p h f = (
  λ d x m e c z.
      let s = both_among (bytes_eq d q) (same_ident x.message.ident i) e in
      let held = h.taken.there n (record { queue = q; ident = i; persistent = b }) (f (record { queue = q; ident = i; persistent = b }) (inl refl)) in
      let one : x ≡ held.row = one_row ((view p).rows q) x held.row (h.apart.once q) (subst (λ (y : List ℕ). Mem x ((view p).rows y)) (name_is d q s.0) m) held.there (ident_yes x.message.ident i s.1 ∙ sym held.is) in
      cc (z, ap (λ (r : Row). r.by) one, held.by),
  unit_loose n items p h (λ t k. f t (inr k)),
)

abbrev AreTo : Definitions → List SenderSide → List Add → Type 0
AreTo d sides as_ = (a : Add) → Mem a as_ → IsFit (local_of a.queue d) a.message × IsUnlisted a.message.ident sides

same_senders : (queue : List ℕ) (m : Message) (p : Plain) → (apply_all (placed queue m) p).channels.senders ≡ p.channels.senders
same_senders queue m p = tried_senders (condition (local_of queue p.definitions) m.md.priority (apply (Places queue m) p)) queue (apply (Places queue m) p)

taken_senders : (items : List Item) (p : Plain) → (apply_all (flat_map taken_item items) p).channels.senders ≡ p.channels.senders
taken_senders [] p = refl
taken_senders (Put q m ∷ items) p = taken_senders items p
taken_senders (Take q i b ∷ items) p = taken_senders items (apply (Leave (Among q (i ∷ []))) p)

puts_ask : (items : List Item) (p : Plain) → AreTo p.definitions p.channels.senders (puts_in items) → AllAsk (flat_map placed_item items) p
puts_ask [] p h = tt
puts_ask (Put q m ∷ items) p h =
    let d = h (record { queue = q; message = m }) (inl refl) in
    let same : (apply_all (placed q m) p).definitions ≡ p.definitions = same_all (placed q m) p (placed_asks q m p d.0 (λ e. d.1)) in
    asks_append (placed q m) (flat_map placed_item items) p (placed_asks q m p d.0 (λ e. d.1)) (puts_ask items (apply_all (placed q m) p) (λ a n.
    let k = h a (inr n) in
    (subst (λ (x : Definitions). IsFit (local_of a.queue x) a.message) (sym same) k.0, subst (IsUnlisted a.message.ident) (sym (same_senders q m p)) k.1)))
puts_ask (Take q i b ∷ items) p h = puts_ask items p h

commit_asks : (c : Connection) (more : List Change) (p : Plain) → AreTo p.definitions p.channels.senders (puts_in c.unit) → ((q : Plain) → AllAsk more q) → AllAsk (commit_changes c ++ more) p
commit_asks c more p h k =
    let taken : Plain = apply_all (flat_map taken_item c.unit) p in
    let same : taken.definitions ≡ p.definitions = same_all (flat_map taken_item c.unit) p (takes_ask c.unit p) in
    asks_append (commit_changes c) more p
    (asks_append (flat_map taken_item c.unit ++ flat_map placed_item c.unit) (EndUnit c.number ∷ []) p
    (asks_append (flat_map taken_item c.unit) (flat_map placed_item c.unit) p (takes_ask c.unit p) (puts_ask c.unit taken (λ a n. let k = h a n in (subst (λ (x : Definitions). IsFit (local_of a.queue x) a.message) (sym same) k.0, subst (IsUnlisted a.message.ident) (sym (taken_senders c.unit p)) k.1)))) (tt, tt))
    (k (apply_all (commit_changes c) p))

unit_to : (c : Connection) (p : Plain) → connection_at c.number p.connections ≡ Some c → IsStocked p → AreTo p.definitions p.channels.senders (puts_in c.unit)
unit_to c p live s a n = let k = subst (λ (o : Option Connection). Mem a (puts_in (items_of o))) (sym live) n in ((s.puts c.number a k, s.routed.puts c.number a k), s.routed.waiting c.number a k)

commit_part_stocked : (c : Connection) (more : List Change) (p : Plain) → ((q : Plain) → AllAsk more q) → connection_at c.number p.connections ≡ Some c → IsStocked p → IsStocked (do_part (commit_part more c) p)
commit_part_stocked c more p k live s =
    let q : Plain = logged (commit_part more c).forced p in
    part_stays (commit_part more c) p (commit_asks c more q (λ a n. let k = unit_to c p live s a n in (subst (λ (x : Definitions). IsFit (local_of a.queue x) a.message) (sym (logged_definitions (commit_part more c).forced p)) k.0, subst (IsUnlisted a.message.ident) (sym (logged_senders (commit_part more c).forced p)) k.1)) k) s

pub cmit_stocked : (hc : Hconn) (p : Plain) → IsStocked p → StepKeeps IsStocked (mqcmit hc p) p
cmit_stocked hc p s = live_on IsStocked (connected hc p) _ p (λ c e. (commit_part_stocked c [] p (λ q. tt) (is_live hc c p e) s, tt))

pub disc_stocked : (hc : Hconn) (p : Plain) → IsStocked p → StepKeeps IsStocked (mqdisc hc p) p
disc_stocked hc p s = live_on IsStocked (connected hc p) _ p (λ c e. (commit_part_stocked c (Disconnect c.number ∷ []) p (λ q. (tt, tt)) (is_live hc c p e) s, tt))

pub back_stocked : (hc : Hconn) (p : Plain) → Sound p → IsStocked p → StepKeeps IsStocked (mqback hc p) p
back_stocked hc p h s = live_on IsStocked (connected hc p) _ p (λ c e. (part_stays (backout_part c) p (asks_append (flat_map freed_item c.unit) (EndUnit c.number ∷ []) p (frees_ask c.unit p (unit_loose c.number c.unit p h (λ t m. subst (λ (o : Option Connection). Mem t (takes_in (items_of o))) (sym (is_live hc c p e)) m))) (tt, tt)) s, tt))

-- Triggers

-- a local queue that is found has the name by which it was looked for
pub local_named : (name : List ℕ) (d : Definitions) (l : LocalQueue) → local_of name d ≡ Some l → l.name ≡ name
local_named name d l e = at (queue_of name d) refl e
  where
    at : (o : Option Object) → queue_of name d ≡ o → as_local o ≡ Some l → l.name ≡ name
    at None w f = absurd cc
    at (Some (objects.Local x)) w f = let is : x ≡ l = cc f in ap (λ (y : LocalQueue). y.name) (sym is) ∙ object_name name d.objects (objects.Local x) w
    at (Some (objects.Alias x)) w f = absurd cc
    at (Some (objects.Remote x)) w f = absurd cc
    at (Some (objects.Channel x)) w f = absurd cc
    at (Some (objects.Process x)) w f = absurd cc

put_trigger_stocked : (q : LocalQueue) (process : Process) (i : LocalQueue) (p : Plain) (o : Option Reason) → takes_it i p ≡ o → routes (local_of i.name p.definitions) ≡ false → IsStocked p → IsStocked (do_part (put_trigger o q process i p) p)
put_trigger_stocked q process i p (Some reason) e r s = part_stays (put_trigger (Some reason) q process i p) p (tt, tt) s
put_trigger_stocked q process i p None e r s = part_stays (put_trigger None q process i p) p (tt, (tt, (((placing_defined (route_to i.name) 684 p e, sym r), λ z. absurd cc), tt))) s

serve_stocked : (q : LocalQueue) (process : Option Process) (i : Option LocalQueue) (p : Plain) → local_of q.initiation_queue p.definitions ≡ i → IsStocked p → IsStocked (do_part (serve_by q process i p) p)
serve_stocked q None i p is s = part_stays (serve_by q None i p) p (tt, tt) s
serve_stocked q (Some process) None p is s = part_stays (serve_by q (Some process) None p) p (tt, tt) s
serve_stocked q (Some process) (Some i) p is s = bool_case (is_transmission i.usage) (λ b. IsStocked (do_part (serve_into b q process i p) p)) (λ e. part_stays (serve_into true q process i p) p (tt, tt) s)
    (λ e. put_trigger_stocked q process i p (takes_it i p) refl (ap (λ (n : List ℕ). routes (local_of n p.definitions)) (local_named q.initiation_queue p.definitions i is) ∙ ap routes is ∙ e) s)

turn_stocked : (o : Option LocalQueue) (p : Plain) → IsStocked p → StepKeeps IsStocked (serve o p) p
turn_stocked None p s = tt
turn_stocked (Some q) p s = (serve_stocked q (process_of q.process p.definitions) (local_of q.initiation_queue p.definitions) p refl s, tt)

pub trigger_stocked : (p : Plain) → IsStocked p → StepKeeps IsStocked (trigger_turn p) p
trigger_stocked p s = bool_case (is_up p.running) (λ b. StepKeeps IsStocked (trigger_at b p) p) (λ e. turn_stocked (first_due (locals_of p.definitions) p) p s) (λ e. tt)

-- Ends of channels, the handler

pub seize_stocked : (channel : List ℕ) (p : Plain) → IsStocked p → StepKeeps IsStocked (seize channel p) p
seize_stocked channel p s = tested_on IsStocked (when (not (is_transmission_queue (local_of (channel_queue (channel_of channel p.definitions)) p.definitions))) seize_faults.BadQueue
    ∷ when (is_open_for_input (channel_queue (channel_of channel p.definitions)) p || has_held_by_other channel (channel_queue (channel_of channel p.definitions)) p) seize_faults.QueueInUse ∷ []) _ p
    (λ e. (stays (Seize (record { channel = channel; queue = channel_queue (channel_of channel p.definitions) })) p tt s, tt))

pub leave_stocked : (channel : List ℕ) (p : Plain) → IsStocked p → StepKeeps IsStocked (leave channel p) p
leave_stocked channel p s = (stays (Unseize channel) p tt s, tt)

pub bound_stocked : (channel : List ℕ) (b : Bool) (p : Plain) → IsStocked p → StepKeeps IsStocked (set_bound channel b p) p
bound_stocked channel b p s = (stays (SetBound channel b) p tt s, tt)

pub expire_stocked : (channel : List ℕ) (p : Plain) → IsStocked p → StepKeeps IsStocked (expire channel p) p
expire_stocked channel p s = parts_stay (expired_parts (queue_of_sender channel p) (expired_rows (queue_of_sender channel p) p)) p (removals_ask whys.Expired (queue_of_sender channel p) (expired_rows (queue_of_sender channel p) p) p) s

pub hold_stocked : (channel : List ℕ) (unit : Luw) (most : ℕ) (p : Plain) → IsStocked p → StepKeeps IsStocked (hold_batch channel unit most p) p
hold_stocked channel unit most p s =
    let q : List ℕ = queue_of_sender channel p in
    let idents : List Ident = idents_of (take most (free_rows q p)) in
    let hold : Change = Hold (Among q idents) (holders.Batch channel) in
    (stays (AddBatch (record { channel = channel; unit = unit; queue = q; idents = idents })) (apply hold p) tt (stays hold p tt s), tt)

-- a channel of which no unit in doubt lists anything
abbrev ListsNone : List ℕ → List SenderSide → Type 0
ListsNone channel sides = (s : SenderSide) → Mem s sides → s.channel ≡ channel → (i : Ident) → Mem i (listed s.hardened.in_doubt) → ⊥

by_channel : (channel other : List ℕ) (o : Option Holder) → held_by (holders.Batch channel) o ≡ true → o ≡ Some (holders.Batch other) → other ≡ channel
by_channel channel other None e f = absurd cc
by_channel channel other (Some (holders.Unit n)) e f = absurd cc
by_channel channel other (Some (holders.Batch c)) e f = sym (name_is channel c e ∙ batch_name f)
  where
    batch_name : Some (holders.Batch c) ≡ Some (holders.Batch other) → c ≡ other
    batch_name z = ap the_batch z

releases_batch : (channel : List ℕ) (p : Plain) → ListsNone channel p.channels.senders → Releases (HeldBy (holders.Batch channel)) p
releases_batch channel p f q h s m e k l by = f s k (by_channel channel s.channel h.by e by) h.message.ident l

-- beside a batch nothing is in doubt
doubt_none : (channel : List ℕ) (p : Plain) → (view p).doubt channel ≡ None → AreSorted p.channels.senders → ListsNone channel p.channels.senders
doubt_none channel p e sorted s m is i l =
    let found : in_doubt_of (sender_in s.channel p.channels.senders) ≡ s.hardened.in_doubt = ap in_doubt_of (side_found p.channels.senders s sorted m) in
    absurd (subst (λ (o : Option InDoubt). Mem i (listed o)) (sym found ∙ ap (λ (c : List ℕ). in_doubt_of (sender_in c p.channels.senders)) is ∙ e) l)

release_of_stocked : (channel : List ℕ) (o : Option Batch) (p : Plain) → batch_of channel p.channels.batches ≡ o → Sound p → IsStocked p → StepKeeps IsStocked (release_of channel o) p
release_of_stocked channel None p is h s = tt
release_of_stocked channel (Some b) p is h s = (
  stays (DropBatch channel) (apply (Release (HeldBy (holders.Batch channel)) false) p) tt
      (stays (Release (HeldBy (holders.Batch channel)) false) p (releases_batch channel p (doubt_none channel p (h.batched.one channel b is) s.routed.sorted)) s),
  tt,
)

pub release_stocked : (channel : List ℕ) (p : Plain) → Sound p → IsStocked p → StepKeeps IsStocked (release_batch channel p) p
release_stocked channel p h s = release_of_stocked channel (batch_of channel p.channels.batches) p refl h s

-- what a batch lists stands here, so it may be listed
batch_listable : (channel : List ℕ) (b : Batch) (p : Plain) → batch_of channel p.channels.batches ≡ Some b → Sound p → (i : Ident) → Mem i b.idents → IsListable channel i p
batch_listable channel b p e h i m =
    let full = h.batched.full channel b i e m in
    record {
      given = ap (λ (x : Ident). is_unborn x p) (sym full.is) ∙ h.apart.given b.queue full.row full.there;
      waits = λ n a k z. h.apart.waiting n a b.queue full.row k full.there (z ∙ sym full.is);
      rows = λ q x k lasts z.
          let same : x.message.ident ≡ full.row.message.ident = z ∙ sym full.is in
          let queue : q ≡ b.queue = h.apart.alone q b.queue x full.row k full.there same in
          ap (λ (r : Row). r.by) (one_row ((view p).rows b.queue) x full.row (h.apart.once b.queue) (subst (λ (n : List ℕ). Mem x ((view p).rows n)) queue k) full.there same) ∙ full.by;
    }

prepare_of_stocked : (channel : List ℕ) (last : ℕ) (o : Option Batch) (p : Plain) → batch_of channel p.channels.batches ≡ o → Sound p → IsStocked p → StepKeeps IsStocked (prepare_of channel last o p) p
prepare_of_stocked channel last None p is h s = tt
prepare_of_stocked channel last (Some b) p is h s = tested_on IsStocked (when (is_full (need (prepared_record channel last b)) p) prepare_faults.NoRoom ∷ []) _ p
    (λ e.
    let d : SenderData = data_prepared (prepared_doubt last b) (sender_or (sender_data channel p)) in
    let q : Plain = logged (Some (prepared_record channel last b)) p in
    (stays (DropBatch channel) (apply (SetSender channel d) q) tt (stays (SetSender channel d) q (λ i m. let k = batch_listable channel b p is h i m in record { given = k.given; waits = k.waits; rows = k.rows }) (logged_stays (Some (prepared_record channel last b)) p s)), tt))

pub prepare_stocked : (channel : List ℕ) (last : ℕ) (p : Plain) → Sound p → IsStocked p → StepKeeps IsStocked (prepare channel last p) p
prepare_stocked channel last p h s = prepare_of_stocked channel last (batch_of channel p.channels.batches) p refl h s

-- what a unit in doubt lists may be listed
side_listed : (channel : List ℕ) (i : Ident) (ss : List SenderSide) → Mem i (listed (sender_or (sender_in channel ss)).in_doubt) → (s : SenderSide) × Mem s ss × Mem i (listed s.hardened.in_doubt) × (s.channel ≡ channel)
side_listed channel i [] m = absurd m
side_listed channel i (s ∷ ss) m = bool_case (bytes_eq channel s.channel) (λ b. bytes_eq channel s.channel ≡ b → Mem i (listed (sender_or (if b then Some s.hardened else sender_in channel ss)).in_doubt) → (x : SenderSide) × Mem x (s ∷ ss) × Mem i (listed x.hardened.in_doubt) × (x.channel ≡ channel))
    (λ z e n. (s, inl refl, n, sym (name_is channel s.channel e))) (λ z e n. let k = side_listed channel i ss n in (k.0, inr k.1, k.2, k.3)) refl m

listed_again : (channel : List ℕ) (p : Plain) → IsStocked p → (i : Ident) → Mem i (listed (sender_or (sender_data channel p)).in_doubt) → IsListable channel i p
listed_again channel p s i m =
    let k = side_listed channel i p.channels.senders m in
    record {
      given = is_false (is_unborn i p) (λ e. s.routed.given i e k.0 k.1 k.2);
      waits = λ n a l z. s.routed.waiting n a l k.0 k.1 (subst (λ (x : Ident). Mem x (listed k.0.hardened.in_doubt)) (sym z) k.2);
      rows = λ q h n lasts z.
          s.routed.doubted q h k.0 n lasts k.1 (subst (λ (x : Ident). Mem x (listed k.0.hardened.in_doubt)) (sym z) k.2) ∙ ap (λ (c : List ℕ). Some (holders.Batch c)) k.3;
    }

-- a unit in doubt that is backed out: its rows are free, and it lists nothing any more
backs_out : (channel : List ℕ) (d : SenderData) (p : Plain) → d.in_doubt ≡ None → IsStocked p → IsStocked (apply (SetSender channel d) (apply (Release (HeldBy (holders.Batch channel)) false) p))
backs_out channel d p e s =
    let q : Plain = apply (SetSender channel d) p in
    let k : IsStocked q = stays (SetSender channel d) p (λ i m. absurd (subst (λ (o : Option InDoubt). Mem i (listed o)) e m)) s in
    stays (Release (HeldBy (holders.Batch channel)) false) q (releases_batch channel q (λ x n is i m.
    let own : x ≡ record { channel = channel; hardened = d } = one_side q.channels.senders x (record { channel = channel; hardened = d }) k.routed.sorted n (set_there (λ (t : SenderSide). t.channel) (record { channel = channel; hardened = d }) p.channels.senders) is in
    absurd (subst (λ (o : Option InDoubt). Mem i (listed o)) (ap (λ (t : SenderSide). t.hardened.in_doubt) own ∙ e) m))) k

pub harden_stocked : (channel : List ℕ) (note : Note) (p : Plain) → IsStocked p → StepKeeps IsStocked (harden channel note p) p
harden_stocked channel (notes.Session partner session) p s = (part_stays (harden_part channel (notes.Session partner session) p) p (λ i m. let k = listed_again channel p s i m in record { given = k.given; waits = k.waits; rows = k.rows }, tt) s, tt)
harden_stocked channel (notes.Resolved unit true operator) p s = (part_stays (harden_part channel (notes.Resolved unit true operator) p) p (tt, (λ i m. absurd m, tt)) s, tt)
harden_stocked channel (notes.Resolved unit false operator) p s = (backs_out channel _ (logged (harden_part channel (notes.Resolved unit false operator) p).forced p) refl (logged_stays (harden_part channel (notes.Resolved unit false operator) p).forced p s), tt)
harden_stocked channel (notes.Bound partner session last) p s = (part_stays (harden_part channel (notes.Bound partner session last) p) p (tt, tt) s, tt)
harden_stocked channel (notes.Closed session) p s = (part_stays (harden_part channel (notes.Closed session) p) p (tt, tt) s, tt)
harden_stocked channel (notes.SeqSet ends.Sender last) p s = (part_stays (harden_part channel (notes.SeqSet ends.Sender last) p) p (λ i m. let k = listed_again channel p s i m in record { given = k.given; waits = k.waits; rows = k.rows }, tt) s, tt)
harden_stocked channel (notes.SeqSet ends.Receiver last) p s = (part_stays (harden_part channel (notes.SeqSet ends.Receiver last) p) p (tt, tt) s, tt)

pub discard_stocked : (queue : List ℕ) (ident : Ident) (p : Plain) → IsStocked p → StepKeeps IsStocked (discard queue ident p) p
discard_stocked queue ident p s = parts_stay (removal_parts whys.Discarded queue (filter (has_ident ident) (stored queue p).rows)) p (removals_ask whys.Discarded queue (filter (has_ident ident) (stored queue p).rows) p) s

move_of_stocked : (from : List ℕ) (to : Dest) (bare : Bool) (o : Result Route Reason) (m : Message) (p : Plain) → resolve p.definitions p.given.name to.queue to.qmgr ≡ o → (is_persistent m ≡ true → IsUnlisted m.ident p.channels.senders) → IsStocked p → StepKeeps IsStocked (move_resolved from to bare o m p) p
move_of_stocked from to bare (Err reason) m p is u s = tt
move_of_stocked from to bare (Ok route) m p is u s = tested_on IsStocked (route_tests route (length m.body) p ++ when (move_full from (landing route m) p) reasons.ResourceProblem ∷ []) _ p
    (λ e. parts_stay (move_part from to bare (landing route m) ∷ []) p (
      (
        tt,
        placed_asks (queue_at route.end) (landing route m).message (apply (Leave (Among from (m.ident ∷ []))) (logged (moved_forced from (landing route m)) p))
            (subst (λ (x : Definitions). IsFit (local_of (queue_at route.end) x) (landing route m).message) (sym (logged_definitions (moved_forced from (landing route m)) p)) (fits e)) (λ w. subst (IsUnlisted m.ident) (sym (logged_senders (moved_forced from (landing route m)) p)) (u w)),
      ),
      tt,
    ) s)
  where
    fits : refusal (route_tests route (length m.body) p ++ when (move_full from (landing route m) p) reasons.ResourceProblem ∷ []) ≡ None → IsFit (local_of (queue_at route.end) p.definitions) (landing route m).message
    fits e = route_fits output_only route p to.queue to.qmgr is (first_passes (is_unfit output_only route.end p) reasons.OptionNotValidForType (placing_tests route (length m.body) p)
        (first (route_tests route (length m.body) p) (when (move_full from (landing route m) p) reasons.ResourceProblem ∷ []) e)) refl (landing route m).message refl

-- a free row that lasts is in no list
pub free_unlisted : (q : List ℕ) (r : Row) (p : Plain) → IsStocked p → Mem r ((view p).rows q) → r.by ≡ None → is_persistent r.message ≡ true → IsUnlisted r.message.ident p.channels.senders
free_unlisted q r p s m free e x k l = cc (free, s.routed.doubted q r x m e k l)

pub bare_kind : (bare : Bool) (m : Message) → (is_persistent (bare_if bare m) ≡ is_persistent m) × ((bare_if bare m).ident ≡ m.ident)
bare_kind true m = (refl, refl)
bare_kind false m = (refl, refl)

move_found_stocked : (from : List ℕ) (to : Dest) (bare : Bool) (o : Option Message) (p : Plain) → ((m : Message) → o ≡ Some m → is_persistent m ≡ true → IsUnlisted m.ident p.channels.senders) → IsStocked p → StepKeeps IsStocked (move_found from to bare o p) p
move_found_stocked from to bare None p u s = tt
move_found_stocked from to bare (Some m) p u s = let k = bare_kind bare m in
    move_of_stocked from to bare (resolve p.definitions p.given.name to.queue to.qmgr) (bare_if bare m) p refl (λ e. subst (λ (i : Ident). IsUnlisted i p.channels.senders) (sym k.1) (u m refl (sym k.0 ∙ e))) s

pub move_stocked : (from : List ℕ) (ident : Ident) (to : Dest) (bare : Bool) (p : Plain) → CanMove from ident bare p → Sound p → IsStocked p → StepKeeps IsStocked (move_row from ident to bare p) p
move_stocked from ident to bare p can h s = at (find (has_ident ident) (stored from p).rows) refl
  where
    at : (o : Option Row) → find (has_ident ident) (stored from p).rows ≡ o → StepKeeps IsStocked (move_found from to bare (elim o as (λ x. Option Message) [ None ↦ None | Some row ↦ Some row.message ]) p) p
    at None e = tt
    at (Some r) e =
        let k = find_mem ident ((view p).rows from) r e in
        move_found_stocked from to bare (Some r.message) p (λ m is lasts. subst (λ (x : Message). IsUnlisted x.ident p.channels.senders) (message_is m is)
        (free_unlisted from r p s k.0 (is_loose from ident p h can.free r k.0 k.1) (ap is_persistent (message_is m is) ∙ lasts))) s
      where
        message_is : (m : Message) → Some r.message ≡ Some m → r.message ≡ m
        message_is m z = cc z

-- A receiver's commit

abbrev AllStocked : Plain → Result Landed Reason → Type 0
AllStocked p (Err reason) = Unit {0}
AllStocked p (Ok l) = IsStocked (apply_all l.changes p)

off_now : (i : Ident) (o : Option InDoubt) → Mem i (listed (less_ident i o)) → ⊥
off_now i None m = m
off_now i (Some d) m = cc ((mem_filter i (λ other. not (same_ident i other)) d.idents m).1, same_self i)

all_off : (i : Ident) (sides : List SenderSide) → IsUnlisted i (off_lists i sides)
all_off i sides s m n = let k = map_mem (off_list i) s sides m in off_now i k.0.hardened.in_doubt (subst (λ (x : SenderSide). Mem i (listed x.hardened.in_doubt)) k.2 n)

undoubted_asks : (b : Bool) (queue : List ℕ) (m : Message) (p : Plain) → is_persistent m ≡ b → IsFit (local_of queue p.definitions) m → AllAsk (undoubted b m.ident ++ placed queue m) p
undoubted_asks true queue m p e d = (tt, placed_asks queue m (apply (Undoubt m.ident) p) d (λ w. all_off m.ident p.channels.senders))
undoubted_asks false queue m p e d = placed_asks queue m p d (λ w. absurd (cc (e, w)))

pub land_asks : (queue : List ℕ) (m : Message) (st : Standing) (p : Plain) → IsFit (local_of queue p.definitions) m → AllAsk (drop_changes m st ++ placed queue m) p
land_asks queue m Absent p d = undoubted_asks (is_persistent m) queue m p refl d
land_asks queue m (InDoubtAt from) p d = (tt, undoubted_asks (is_persistent m) queue m (apply (Leave (Among from (m.ident ∷ []))) p) refl d)
land_asks queue m Present p d = undoubted_asks (is_persistent m) queue m p refl d

before_stocked : (m : Message) (l : Landing) (st : Standing) (p : Plain) (rest : Result Landed Reason) → AllStocked (apply_all (land_changes l st) p) rest → AllStocked p (before m l st rest)
before_stocked m l st p (Err reason) h = tt
before_stocked m l st p (Ok rest) h = subst IsStocked (sym (behind (land_changes l st) rest.changes p)) h

by_stocked : (o : Result Landing Reason) (m : Message) (st : Standing) (p : Plain) (rest : Plain → Result Landed Reason) → IsStocked p → ((q : Plain) → IsStocked q → AllStocked q (rest q)) → IsLanding m p o → AllStocked p (landed_by o m st p rest)
by_stocked (Err reason) m st p rest s all is = tt
by_stocked (Ok l) m st p rest s all is = before_stocked m l st p (rest (apply_all (land_changes l st) p)) (all (apply_all (land_changes l st) p) (all_stay (land_changes l st) p (land_asks l.queue l.message st p is.1) s))

unless_stocked : (b : Bool) (channel : List ℕ) (m : Message) (st : Standing) (p : Plain) (rest : Plain → Result Landed Reason) → IsStocked p → ((q : Plain) → IsStocked q → AllStocked q (rest q)) → AllStocked p (landed_unless b channel m st p rest)
unless_stocked true channel m st p rest s all = all p s
unless_stocked false channel m st p rest s all = by_stocked (land channel m p) m st p rest s all (land_is channel m p)

landed_stocked : (channel : List ℕ) (ms : List Message) (p : Plain) → IsStocked p → AllStocked p (landed channel ms p)
landed_stocked channel [] p s = s
landed_stocked channel (m ∷ ms) p s = unless_stocked (is_present (standing_at m p)) channel m (standing_at m p) p (λ q. landed channel ms q) s (λ q k. landed_stocked channel ms q k)

receive_of_stocked : (channel : List ℕ) (unit : Luw) (last : ℕ) (o : Result Landed Reason) (p : Plain) → AllStocked p o → StepKeeps IsStocked (receive_landed channel unit last o p) p
receive_of_stocked channel unit last (Err reason) p s = tt
receive_of_stocked channel unit last (Ok l) p s =
    let r : LogRecord = received_record channel unit last l in
    let x : ReceiverData = record (receiver_or (receiver_data channel p)) { unit = unit; last = last } in
    let q : Plain = logged (Some r) p in
    tested_on IsStocked (when (is_full (need r) p) reasons.ResourceProblem ∷ []) (Do tt (received_part channel unit last l p ∷ [])) p
    (λ e. (subst IsStocked (sym (behind l.changes (SetReceiver channel x ∷ []) q)) (stays (SetReceiver channel x) (apply_all l.changes q) tt (subst IsStocked (sym (log_aside l.changes (written r p.log) p)) (in_log (written r p.log) (apply_all l.changes p) s))), tt))
  where
    in_log : (log : LogState) (p : Plain) → IsStocked p → IsStocked (record p { log = log })
    in_log log p s = record { once = s.once; placed = s.placed; rows = s.rows; puts = s.puts; routed = s.routed }

pub receive_stocked : (channel : List ℕ) (unit : Luw) (last : ℕ) (batch : List Message) (p : Plain) → IsStocked p → StepKeeps IsStocked (receive channel unit last batch p) p
receive_stocked channel unit last batch p s = receive_of_stocked channel unit last (landed channel batch p) p (landed_stocked channel batch p s)

-- A stop

rests_ask : (bs : List Batch) (more : List Change) (p : Plain) → ((b : Batch) → Mem b bs → ListsNone b.channel p.channels.senders) → ((q : Plain) → AllAsk more q) → AllAsk (map batch_release bs ++ more) p
rests_ask [] more p f k = k p
rests_ask (b ∷ bs) more p f k = (releases_batch b.channel p (f b (inl refl)), rests_ask bs more (apply (batch_release b) p) (λ c m. f c (inr m)) k)

by_unit_not : (o : Option Holder) (c : List ℕ) → is_by_unit o ≡ true → o ≢ Some (holders.Batch c)
by_unit_not None c e f = cc f
by_unit_not (Some (holders.Unit n)) c e f = cc f
by_unit_not (Some (holders.Batch d)) c e f = cc e

batch_there : (b : Batch) (bs : List Batch) → Mem b bs → (x : Batch) × (batch_of b.channel bs ≡ Some x)
batch_there b [] m = absurd m
batch_there b (y ∷ ys) m = bool_case (bytes_eq b.channel y.channel) (λ t. bytes_eq b.channel y.channel ≡ t → (x : Batch) × ((if t then Some y else batch_of b.channel ys) ≡ Some x))
    (λ z w. (y, refl)) (λ z w. elim m [ inl e ↦ absurd (cc (w, name_self b.channel, ap (λ (c : Batch). bytes_eq b.channel c.channel) e)) | inr k ↦ batch_there b ys k ]) refl

stopped_stocked : (r : Running) (p : Plain) → Sound p → IsStocked p → IsStocked (stop_at r p).next
stopped_stocked Up p h s = down (all_stay (stop_changes p) p (
  λ q x t m e k l. by_unit_not x.by t.channel e,
  rests_ask p.channels.batches (Leave Nonpersistent ∷ ForgetAll ∷ []) (apply (Release HeldByUnits true) p)
      (λ b m. let k = batch_there b p.channels.batches m in doubt_none b.channel p (h.batched.one b.channel k.0 k.1) s.routed.sorted) (λ q. (tt, (tt, tt))),
) s)
  where
    down : {q : Plain} → IsStocked q → IsStocked (record q { running = Down None 0 })
    down k = record { once = k.once; placed = k.placed; rows = k.rows; puts = k.puts; routed = k.routed }
stopped_stocked (Down noted starts) p h s = s

pub stop_stocked : (p : Plain) → Sound p → IsStocked p → IsStocked (stop p).next
stop_stocked p h s = stopped_stocked p.running p h s
