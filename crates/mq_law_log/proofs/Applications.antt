-- Each call of an application makes a crash harmless, at each of its writes, in a sound manager.
use Rattle.std.proofs.Common.{ℕ, ◌≡◌, Bool, true, false, List, [], ◌∷◌, ◌++◌, refl, ap, sym, subst, inl, inr}
use Rattle.std.specs.Prelude.{Option, Some, None, Result, Ok, Err, is_some, if◌then◌else◌, ◌&&◌}
use Rattle.std.specs.List.{AllByRecursion}
use Rattle.mq_codes.specs.declared.reason.Reason.{Reason}
use Rattle.mq_codes.specs.declared.reason.Reason.TheVariants as reasons
use Rattle.mq_message.specs.declared.message.Ident.{Ident}
use Rattle.mq_message.specs.declared.message.Md.{Md}
use Rattle.mq_message.specs.declared.message.Message.{Message}
use Rattle.mq_message.specs.declared.place.Want.{Want}
use Rattle.mq_queue.specs.declared.row.Row.{Row}
use Rattle.mq_queue.specs.Rows.{is_free, is_wanted}
use Rattle.mq_objects.specs.Names.{local_of}
use Rattle.mq_resolve.specs.declared.route.Route.{Route}
use Rattle.mq_resolve.specs.Resolved.{resolve}
use Rattle.mq_calls.specs.declared.answers.Hconn.{Hconn}
use Rattle.mq_calls.specs.declared.answers.Hobj.{Hobj}
use Rattle.mq_calls.specs.declared.answers.Open.{Open}
use Rattle.mq_calls.specs.declared.answers.Appl.{Appl}
use Rattle.mq_calls.specs.declared.answers.Get.{Get}
use Rattle.mq_calls.specs.declared.deltas.Did.{Did}
use Rattle.mq_calls.specs.declared.deltas.Why.{Why}
use Rattle.mq_calls.specs.declared.deltas.Why.TheVariants as whys
use Rattle.mq_calls.specs.State.{Plain, Change}
use Rattle.mq_calls.specs.declared.state.Connection.{Connection}
use Rattle.mq_calls.specs.declared.state.Handle.{Handle}
use Rattle.mq_calls.specs.State.Change.{Connect, OpenHandle, CloseHandle, SetCursor, Pend, CountIdent, Disconnect}
use Rattle.mq_calls.specs.declared.state.Item.TheVariants.{Put}
use Rattle.mq_calls.specs.Reads.{connection_at, handle_at, is_expired}
use Rattle.mq_calls.specs.Changes.{apply_all}
use Rattle.mq_calls.specs.Recovery.{routes}
use Rattle.mq_calls.specs.Steps.{Step, Part, Test, when, tested, refused_or, refusal, going_on, none_of, silent, do_part, do_all}
use Rattle.mq_calls.specs.Images.{lasting}
use Rattle.mq_spec_manager.specs.Handles.{new_connection, new_handle, connected, for_connection, for_handle, mqconn, mqopen, mqclose, close_up, close_handle, conn_tests, open_tests, open_step, option_tests, is_unfit}
use Rattle.mq_spec_manager.specs.Put.{mqput, mqput1, put_up, put_handle, put_route, put_part, put1_resolved, new_message, put_tests, put_step, queue_at, dest_at, next_ident, output_tests, handle_route, output_only}
use Rattle.mq_spec_manager.specs.Get.{mqget, get_up, get_handle, get_scanned, get_found, get_tests, room_tests, scanned, scan, scan_row, asked, looked_at, with_row, without_row, is_waiting, is_under, is_left, is_destructive, found_part, taking_part, removal_parts, persistent_rows, expired_parts}
use Rattle.mq_spec_manager.specs.Units.{mqcmit, mqback, mqdisc}
use Rattle.mq_law_manager.specs.View.{view}
use Rattle.mq_law_manager.specs.Facts.{Mem, Differ, ident_of, IsSound}
use Rattle.mq_law_manager.proofs.Lists.{bool_case, distinct_of}
use Rattle.mq_law_manager.proofs.Units.{is_live}
use Rattle.mq_law_manager.proofs.Steps.{free_is}
use Rattle.mq_law_manager.proofs.Removals.{scan_free, scan_found, scan_apart, looked_mem, looked_differ, IsFound, after_removals, removals_keep}
use Rattle.mq_law_manager.proofs.Shelves.{parts_stay}
use Rattle.mq_law_manager.proofs.Receiving.{first_passes}
use Rattle.mq_law_manager.proofs.Resolving.{route_stands, end_routed}
use Rattle.mq_law_manager.proofs.Stocks.{put_defined, removals_ask, connection_mem, handle_mem, output_passes}
use Rattle.mq_law_manager.proofs.Ending.{parts_joined, done}
use Rattle.mq_law_log.specs.Keeps.{IsNew}
use Rattle.mq_law_log.specs.Sound.{IsLogSound, AreFree}
use Rattle.mq_law_log.specs.Restarts.{IsHarmless, IsGivenIn, AllHarmless, StepHarmless}
use Rattle.mq_law_log.proofs.Bridge.{sound_logs, fit_fits}
use Rattle.mq_law_log.proofs.Stops.{undone_is}
use Rattle.mq_law_log.proofs.Parts.{taking_does}
use Rattle.mq_law_log.proofs.Harmless.{put_harmless, removal_harmless, commit_harmless}
use Rattle.mq_law_log.proofs.Backouts.{backout_lasts}
use Rattle.mq_law_log.proofs.Givens.{next_given, put_given, removal_given, commit_given}
use Rattle.mq_spec_log.specs.Applies.{was_given}

-- a part without a write, that changes nothing that lasts
pub unforced : (changes : List Change) (delta : List Did) (p : Plain) → lasting (apply_all changes p) ≡ lasting p → IsHarmless (record { forced = None; changes = changes; delta = delta }) p
unforced changes delta p e = record { keeps = e; found = λ r left started f. absurd cc; anytime = λ r running log moment f. absurd cc; lost = λ left started. undone_is None left started p }

-- A call as it is read

pub live_h : {T : Type 0} (r : Result Connection Reason) (f : Connection → Step Reason T) (p : Plain) → ((c : Connection) → r ≡ Ok c → StepHarmless (f c) p) → StepHarmless (for_connection r f) p
live_h (Ok c) f p k = k c refl
live_h (Err reason) f p k = tt

pub open_h : {T : Type 0} (o : Option Handle) (f : Handle → Step Reason T) (p : Plain) → ((h : Handle) → o ≡ Some h → StepHarmless (f h) p) → StepHarmless (for_handle o f) p
open_h None f p k = tt
open_h (Some h) f p k = k h refl

pub tested_h : {F T : Type 0} (ts : List (Test F)) (s : Step F T) (p : Plain) → (refusal ts ≡ None → StepHarmless s p) → StepHarmless (tested ts s) p
tested_h {F} {T} ts s p k = at (refusal ts) refl
  where
    at : (o : Option F) → refusal ts ≡ o → StepHarmless (refused_or o s) p
    at None e = k e
    at (Some reason) e = tt

going_h : {A F T : Type 0} (r : Result A F) (rest : A → Step F T) (p : Plain) → ((x : A) → StepHarmless (rest x) p) → StepHarmless (going_on r rest) p
going_h (Err reason) rest p k = tt
going_h (Ok x) rest p k = k x

-- Connections and handles

pub conn_harmless : (qmgr : List ℕ) (appl : Appl) (p : Plain) → StepHarmless (mqconn qmgr appl p) p
conn_harmless qmgr appl p = tested_h (conn_tests qmgr p) _ p (λ e. (unforced (Connect (new_connection appl p) ∷ []) [] p refl, tt, tt))

pub open_harmless : (hc : Hconn) (name qmgr : List ℕ) (how : Open) (p : Plain) → StepHarmless (mqopen hc name qmgr how p) p
open_harmless hc name qmgr how p = going_h (connected hc p) _ p (λ c. going_h (none_of (option_tests how)) _ p (λ u. going_h (resolve p.definitions p.given.name name qmgr) _ p
    (λ route. going_h (none_of (open_tests c how route p)) (λ fits. open_step c how route) p (λ w. (unforced (OpenHandle c.number (new_handle how route c) ∷ []) [] p refl, tt, tt)))))

pub close_harmless : (hc : Hconn) (ho : Hobj) (p : Plain) → StepHarmless (mqclose hc ho p) p
close_harmless hc ho p = live_h (connected hc p) (close_up ho) p (λ c e. open_h (handle_at ho.number c.handles) (close_handle c) p (λ x w. (unforced (CloseHandle c.number x.number ∷ []) [] p refl, tt, tt)))

-- Puts

put_part_h : (sync : Bool) (c : Connection) (route : Route) (m : Message) (p : Plain) → IsSound p → m.ident ≡ next_ident p → is_some (local_of (queue_at route.end) p.definitions) ≡ true
    → is_some m.route ≡ routes (local_of (queue_at route.end) p.definitions) → IsHarmless (put_part sync c (queue_at route.end) m) p
put_part_h true c route m p h is d routed = unforced (CountIdent ∷ Pend c.number (Put (queue_at route.end) m) ∷ []) [] p refl
put_part_h false c route m p h is d routed =
    let s : IsLogSound p = sound_logs p h in
    put_harmless c (queue_at route.end) m p s (fit_fits (local_of (queue_at route.end) p.definitions) m (d, routed)) (subst (λ (i : Ident). IsNew i p) (sym is) s.next)

put_part_given : (sync : Bool) (c : Connection) (queue : List ℕ) (m : Message) (p : Plain) → was_given p.given (lasting p) m.ident ≡ true → IsGivenIn (put_part sync c queue m).forced p
put_part_given true c queue m p e = tt
put_part_given false c queue m p e = put_given queue m p e

route_h : (c : Connection) (route : Route) (md : Md) (body : List ℕ) (sync : Bool) (p : Plain) → IsSound p → is_some (dest_at route.end) ≡ routes (local_of (queue_at route.end) p.definitions) → StepHarmless (put_route c route md body sync p) p
route_h c route md body sync p h routed = tested_h (put_tests c route md body sync (new_message c route md body p) p) (put_step c route md sync (new_message c route md body p)) p
    (λ e. (put_part_h sync c route (new_message c route md body p) p h refl (put_defined c route md body sync (new_message c route md body p) p e) routed, put_part_given sync c (queue_at route.end) (new_message c route md body p) p (next_given p), tt))

pub put_harmless_whole : (hc : Hconn) (ho : Hobj) (md : Md) (body : List ℕ) (sync : Bool) (p : Plain) → IsSound p → StepHarmless (mqput hc ho md body sync p) p
put_harmless_whole hc ho md body sync p h = live_h (connected hc p) (put_up ho md body sync p) p (λ c e. open_h (handle_at ho.number c.handles) (put_handle md body sync p c) p
    (λ x f. tested_h (output_tests x) (put_route c (handle_route x) md body sync p) p (λ z.
    let o = output_passes x z in
    route_h c (handle_route x) md body sync p h ((h.stocked.routed.led c x (connection_mem c.number p.connections c (is_live hc c p e)) (handle_mem ho.number c.handles x f) o.0).routed o.1))))

put1_h : (name qmgr : List ℕ) (r : Result Route Reason) (md : Md) (body : List ℕ) (sync : Bool) (p : Plain) (c : Connection) → resolve p.definitions p.given.name name qmgr ≡ r → IsSound p → StepHarmless (put1_resolved r md body sync p c) p
put1_h name qmgr (Err reason) md body sync p c is h = tt
put1_h name qmgr (Ok route) md body sync p c is h = tested_h (when (is_unfit output_only route.end p) reasons.OptionNotValidForType ∷ []) (put_route c route md body sync p) p
    (λ z. route_h c route md body sync p h (end_routed output_only route.end p (first_passes (is_unfit output_only route.end p) reasons.OptionNotValidForType [] z) refl (route_stands p name qmgr route is).0))

pub put1_harmless : (hc : Hconn) (name qmgr : List ℕ) (md : Md) (body : List ℕ) (sync : Bool) (p : Plain) → IsSound p → StepHarmless (mqput1 hc name qmgr md body sync p) p
put1_harmless hc name qmgr md body sync p h = live_h (connected hc p) (put1_resolved (resolve p.definitions p.given.name name qmgr) md body sync p) p
    (λ c e. put1_h name qmgr (resolve p.definitions p.given.name name qmgr) md body sync p c refl h)

-- Rows that go

free_all : (queue : List ℕ) (rows : List Row) (p : Plain) → ((r : Row) → Mem r rows → Mem r ((view p).rows queue) × (is_free r ≡ true)) → AllByRecursion (λ (row : Row). Mem row ((view p).rows queue) × (is_free row ≡ true)) rows
free_all queue [] p f = tt
free_all queue (r ∷ rows) p f = (f r (inl refl), free_all queue rows p (λ x m. f x (inr m)))

pub are_free : (queue : List ℕ) (rows : List Row) (p : Plain) → ((r : Row) → Mem r rows → Mem r ((view p).rows queue) × (is_free r ≡ true)) → Differ ident_of rows → AreFree queue rows p
are_free queue rows p f d = (free_all queue rows p f, distinct_of rows d)

pub removals_harmless : (why : Why) (queue : List ℕ) (rows : List Row) (p : Plain) → IsSound p → AreFree queue rows p → AllHarmless (removal_parts why queue rows) p
removals_harmless why queue [] p h f = tt
removals_harmless why queue (r ∷ rows) p h f = (removal_harmless why queue (r ∷ rows) p (sound_logs p h) f, removal_given queue (persistent_rows (r ∷ rows)) p, tt)

-- Gets: the expired rows that the scan met, and behind them the row that it found

scan_differ : (want : Want) (p : Plain) (rows : List Row) → Differ ident_of rows → Differ ident_of (scan want p rows).expired
scan_differ want p [] d = tt
scan_differ want p (x ∷ xs) d = bool_case (is_free x && is_wanted want x) (λ b. Differ ident_of (scan_row b (is_expired p x) x (scan want p xs)).expired)
    (λ e. bool_case (is_expired p x) (λ b. Differ ident_of (scan_row true b x (scan want p xs)).expired) (λ z. (λ y m. d.0 y (scan_free want p xs y m).0, scan_differ want p xs d.1)) (λ z. tt))
    (λ e. scan_differ want p xs d.1)

harmless_behind : (xs : List Part) (y : Part) (p : Plain) → AllHarmless xs p → IsHarmless y (do_all xs p) → IsGivenIn y.forced (do_all xs p) → AllHarmless (xs ++ y ∷ []) p
harmless_behind [] y p a b g = (b, g, tt)
harmless_behind (x ∷ xs) y p a b g = (a.0, a.1, harmless_behind xs y (do_part x p) a.2 b g)

pub is_free_of : (r : Row) → r.by ≡ None → is_free r ≡ true
is_free_of r e = ap (λ o. is_free (record r { by = o })) e

one_row_free : (c : Connection) (q : List ℕ) (r : Row) (p : Plain) → IsFound p c q r → AreFree q (r ∷ []) p
one_row_free c q r p f = (((f.there, is_free_of r f.free), tt), (tt, tt))

taking_h : (sync : Bool) (c : Connection) (q : List ℕ) (r : Row) (p : Plain) → IsSound p → IsFound p c q r → IsHarmless (taking_part sync c q r) p
taking_h true c q r p h f = unforced (taking_part true c q r).changes (taking_part true c q r).delta p (taking_does c q r p)
taking_h false c q r p h f = removal_harmless whys.Got q (r ∷ []) p (sound_logs p h) (one_row_free c q r p f)

found_h : (get : Get) (c : Connection) (x : Handle) (q : List ℕ) (r : Row) (p : Plain) → IsSound p → IsFound p c q r → IsHarmless (found_part get c x q r) p
found_h get c x q r p h f = bool_case (is_destructive get.take) (λ b. IsHarmless (if b then taking_part get.sync c q r else silent (SetCursor c.number x.number r.place ∷ [])) p)
    (λ e. taking_h get.sync c q r p h f) (λ e. unforced (SetCursor c.number x.number r.place ∷ []) [] p refl)

taking_given : (sync : Bool) (c : Connection) (q : List ℕ) (r : Row) (p : Plain) → IsGivenIn (taking_part sync c q r).forced p
taking_given true c q r p = tt
taking_given false c q r p = removal_given q (persistent_rows (r ∷ [])) p

found_given : (get : Get) (c : Connection) (x : Handle) (q : List ℕ) (r : Row) (p : Plain) → IsGivenIn (found_part get c x q r).forced p
found_given get c x q r p = bool_case (is_destructive get.take) (λ b. IsGivenIn (if b then taking_part get.sync c q r else silent (SetCursor c.number x.number r.place ∷ [])).forced p)
    (λ e. taking_given get.sync c q r p) (λ e. tt)

with_row_h : (cut : Bool) (get : Get) (c : Connection) (x : Handle) (q : List ℕ) (r : Row) (rows : List Row) (p : Plain) → AllHarmless (expired_parts q rows) p → IsSound (do_all (expired_parts q rows) p)
    → IsFound (do_all (expired_parts q rows) p) c q r → StepHarmless (with_row cut get c x q r (expired_parts q rows)) p
with_row_h true get c x q r rows p k h f = k
with_row_h false get c x q r rows p k h f = harmless_behind (expired_parts q rows) (found_part get c x q r) p k (found_h get c x q r (do_all (expired_parts q rows) p) h f) (found_given get c x q r (do_all (expired_parts q rows) p))

without_row_h : (under waiting : Bool) (before : List Part) (p : Plain) → AllHarmless before p → StepHarmless (without_row under waiting before) p
without_row_h true waiting before p k = k
without_row_h false true before p k = tt
without_row_h false false before p k = k

get_found_h : (get : Get) (until : Option ℕ) (p : Plain) (c : Connection) (x : Handle) (o : Option Row) → IsSound p → connection_at c.number p.connections ≡ Some c → (scanned get x p).found ≡ o
    → StepHarmless (get_found get until p c x (expired_parts (queue_at x.leads) (scanned get x p).expired) o) p
get_found_h get until p c x o h live is = at o is
  where
    met : (r : Row) → Mem r (scanned get x p).expired → Mem r ((view p).rows (queue_at x.leads)) × (is_free r ≡ true)
    met r m = let z = scan_free (asked get) p (looked_at get.take x.cursor ((view p).rows (queue_at x.leads))) r m in (looked_mem get.take x.cursor ((view p).rows (queue_at x.leads)) r z.0, z.1)

    gone : AllHarmless (expired_parts (queue_at x.leads) (scanned get x p).expired) p
    gone = removals_harmless whys.Expired (queue_at x.leads) (scanned get x p).expired p h (are_free (queue_at x.leads) (scanned get x p).expired p met
        (scan_differ (asked get) p (looked_at get.take x.cursor ((view p).rows (queue_at x.leads))) (looked_differ get.take x.cursor ((view p).rows (queue_at x.leads)) (h.facts.apart.once (queue_at x.leads)))))

    sound : IsSound (do_all (expired_parts (queue_at x.leads) (scanned get x p).expired) p)
    sound = done (expired_parts (queue_at x.leads) (scanned get x p).expired) p h (parts_joined (expired_parts (queue_at x.leads) (scanned get x p).expired) p
        (removals_keep whys.Expired (queue_at x.leads) (scanned get x p).expired p h.facts (λ r m. let z = met r m in (z.0, free_is r z.1)))
        (parts_stay (expired_parts (queue_at x.leads) (scanned get x p).expired) p (removals_ask whys.Expired (queue_at x.leads) (scanned get x p).expired p) h.stocked) h.named)

    at : (o : Option Row) → (scanned get x p).found ≡ o → StepHarmless (get_found get until p c x (expired_parts (queue_at x.leads) (scanned get x p).expired) o) p
    at None e = without_row_h (is_under get.take) (is_waiting until p) (expired_parts (queue_at x.leads) (scanned get x p).expired) p gone
    at (Some r) e =
        let looked : List Row = looked_at get.take x.cursor ((view p).rows (queue_at x.leads)) in
        let z = scan_found (asked get) p looked r e in
        with_row_h (is_left get r.message) get c x (queue_at x.leads) r (scanned get x p).expired p gone sound
        (after_removals whys.Expired (queue_at x.leads) (scanned get x p).expired p c r (record { there = looked_mem get.take x.cursor ((view p).rows (queue_at x.leads)) r z.0; free = free_is r z.1; live = live })
        (λ y m. scan_apart (asked get) p looked r y (looked_differ get.take x.cursor ((view p).rows (queue_at x.leads)) (h.facts.apart.once (queue_at x.leads))) e m))

pub get_harmless : (hc : Hconn) (ho : Hobj) (get : Get) (until : Option ℕ) (p : Plain) → IsSound p → StepHarmless (mqget hc ho get until p) p
get_harmless hc ho get until p h = live_h (connected hc p) (get_up ho get until p) p (λ c e. open_h (handle_at ho.number c.handles) (get_handle get until p c) p
    (λ x w. tested_h (get_tests get p c x) (get_scanned get until p c x (scanned get x p)) p
    (λ z. tested_h (room_tests get c (scanned get x p) p) (get_found get until p c x (expired_parts (queue_at x.leads) (scanned get x p).expired) (scanned get x p).found) p
    (λ y. get_found_h get until p c x (scanned get x p).found h (is_live hc c p e) refl))))

-- Ends of units

pub cmit_harmless : (hc : Hconn) (p : Plain) → IsSound p → StepHarmless (mqcmit hc p) p
cmit_harmless hc p h = live_h (connected hc p) _ p (λ c e. let s = sound_logs p h in (commit_harmless [] c p (λ q. refl) s (s.units c.number c (is_live hc c p e)), commit_given c p h (is_live hc c p e), tt))

pub disc_harmless : (hc : Hconn) (p : Plain) → IsSound p → StepHarmless (mqdisc hc p) p
disc_harmless hc p h = live_h (connected hc p) _ p (λ c e. let s = sound_logs p h in (commit_harmless (Disconnect c.number ∷ []) c p (λ q. refl) s (s.units c.number c (is_live hc c p e)), commit_given c p h (is_live hc c p e), tt))

pub back_harmless : (hc : Hconn) (p : Plain) → IsSound p → StepHarmless (mqback hc p) p
back_harmless hc p h = live_h (connected hc p) _ p (λ c e. (unforced _ _ p (backout_lasts c p h (is_live hc c p e)), tt, tt))
