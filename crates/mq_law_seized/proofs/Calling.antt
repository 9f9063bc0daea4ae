-- MQOPEN and MQGET leave seized queues their senders'.
use Rattle.std.proofs.Common.{ℕ, ◌≡◌, Bool, true, false, List, [], ◌∷◌, ◌++◌, refl, ap, sym, subst, ◌∙◌, inl, inr}
use Rattle.std.proofs.lemmas.Bool.{true≢false}
use Rattle.std.specs.Prelude.{Option, Some, None, Result, Ok, Err, ◌==◌, ◌+◌, ◌&&◌, ◌||◌, if◌then◌else◌, not}
use Rattle.std.specs.Str.{bytes_eq}
use Rattle.mq_codes.specs.declared.reason.Reason.{Reason}
use Rattle.mq_message.specs.declared.message.Ident.{Ident}
use Rattle.mq_message.specs.declared.place.Holder.{Holder}
use Rattle.mq_message.specs.declared.place.Holder.TheVariants as holders
use Rattle.mq_queue.specs.declared.row.Row.{Row}
use Rattle.mq_queue.specs.Rows.{is_free}
use Rattle.mq_objects.specs.Names.{local_of}
use Rattle.mq_resolve.specs.declared.route.Route.{Route}
use Rattle.mq_resolve.specs.declared.route.RouteEnd.{RouteEnd}
use Rattle.mq_resolve.specs.declared.route.RouteEnd.TheVariants.{Local, Via}
use Rattle.mq_resolve.specs.Resolved.{resolve}
use Rattle.mq_calls.specs.declared.answers.Answer.{Answer}
use Rattle.mq_calls.specs.declared.answers.Get.{Get}
use Rattle.mq_calls.specs.declared.answers.Hconn.{Hconn}
use Rattle.mq_calls.specs.declared.answers.Hobj.{Hobj}
use Rattle.mq_calls.specs.declared.answers.Open.{Open}
use Rattle.mq_calls.specs.declared.deltas.Why.TheVariants as whys
use Rattle.mq_calls.specs.declared.records.LogRecord.{LogRecord}
use Rattle.mq_calls.specs.declared.state.Item.TheVariants.{Take as Taken}
use Rattle.mq_calls.specs.declared.state.Connection.{Connection}
use Rattle.mq_calls.specs.declared.state.Handle.{Handle}
use Rattle.mq_calls.specs.declared.state.Seizure.{Seizure}
use Rattle.mq_calls.specs.State.{Plain}
use Rattle.mq_calls.specs.State.Change.{Hold, OpenHandle, Pend, SetCursor}
use Rattle.mq_calls.specs.State.Which.{Among}
use Rattle.mq_calls.specs.Changes.{apply, retag_if, selects}
use Rattle.mq_calls.specs.Reads.{connection_at, handle_at, has_held, is_by_other, is_input, is_persistent, leads_to, read_by_sender, stored}
use Rattle.mq_calls.specs.Steps.{◌>>=◌, Part, Step, Test, do_part, going_on, none_of, logged, passed, refusal, refused_or, silent, tested}
use Rattle.mq_spec_manager.specs.Get.{expired_parts, found_part, get_found, get_handle, get_scanned, get_tests, get_up, is_destructive, is_left, is_under, is_waiting, mqget, removal_part, room_tests, scanned, taking_part, with_row, without_row}
use Rattle.mq_spec_manager.specs.Handles.{connected, for_connection, for_handle, is_in_use, is_sending, is_shut, is_transmission_queue, is_unfit, mqopen, new_handle, open_step, open_tests, option_tests}
use Rattle.mq_spec_manager.specs.Put.{queue_at}
use Rattle.mq_law_manager.specs.Facts.{Mem}
use Rattle.mq_law_manager.specs.Kept.{AllKeep, StepKeeps}
use Rattle.mq_law_manager.specs.Seen.{held_if}
use Rattle.mq_law_manager.proofs.Lists.{bool_case, mem_append, mem_retag, name_self, name_yes}
use Rattle.mq_law_manager.proofs.SeenLaws.{applied}
use Rattle.mq_law_manager.proofs.Units.{is_live}
use Rattle.mq_law_seized.specs.Seized.{AreSeized, strays}
use Rattle.mq_law_seized.proofs.Changing.{NoneBy, any_none, change_leaves, changed_none, none_any, none_reads, parts_leave, reads, reads_none}
use Rattle.mq_law_seized.proofs.Bare.{parts_bare_plain, removal_bare}

-- A ROW IS HELD
retagged : (ch : List ℕ) (t : Bool) (by_ : Holder) (o : Row) → is_by_other ch o.by ≡ false → (t ≡ true → is_by_other ch (Some by_) ≡ false) → is_by_other ch (retag_if t (Some by_) o).by ≡ false
retagged ch true by_ o e f = f refl
retagged ch false by_ o e f = e

first_true : (a b c : Bool) → ((a && b) && c) ≡ true → a ≡ true
first_true true b c e = refl
first_true false b c e = absurd cc

pub holds : (q : List ℕ) (is : List Ident) (by_ : Holder) (p : Plain) → AreSeized p → ((s : Seizure) → Mem s p.channels.seizures → s.queue ≡ q → is_by_other s.channel (Some by_) ≡ false) → AreSeized (apply (Hold (Among q is) by_) p)
holds q is by_ p h own = record {
  local = h.local;
  sends = h.sends;
  unread = h.unread;
  alone = h.alone;
  held = λ s n. any_none (λ (row : Row). is_by_other s.channel row.by) (stored s.queue (apply (Hold (Among q is) by_) p)).rows
      (subst (λ v. NoneBy s.channel (v.rows s.queue)) (sym (applied (Hold (Among q is) by_) p tt)) (λ r m.
      let o = mem_retag (held_if (Among q is) by_ s.queue) r (stored s.queue p).rows m in
      ap (λ (x : Row). is_by_other s.channel x.by) o.2
      ∙ retagged s.channel (selects (Among q is) s.queue o.0 && is_free o.0) by_ o.0 (none_any (λ (row : Row). is_by_other s.channel row.by) (stored s.queue p).rows (h.held s n) o.0 o.1)
      (λ e. own s n (name_yes s.queue q (first_true (bytes_eq s.queue q) _ (is_free o.0) e)))));
}

-- A QUEUE IS OPENED
opened_one : (s : List ℕ) (i : Bool) (xm rs hh : Bool) → i ≡ true → xm ≡ true → rs ≡ true → (i && xm && (rs || hh)) ≡ false → ⊥
opened_one s i xm rs hh a b c e = true≢false (sym (λ k. a k && b k && (c k || hh)) ∙ e)

right_none : (a b : Bool) → (a || b) ≡ false → b ≡ false
right_none true b e = absurd cc
right_none false b e = e

left_none : (a b : Bool) → (a || b) ≡ false → a ≡ false
left_none true b e = absurd cc
left_none false b e = refl

end_reads : (how : Open) (end : RouteEnd) (p : Plain) → AreSeized p → is_in_use how end p ≡ false → (s : Seizure) → Mem s p.channels.seizures → (is_input how.input && leads_to s.queue end) ≡ false
end_reads how (Via xq rq rqm) p h free s n = and_none (is_input how.input)
  where
    and_none : (a : Bool) → (a && false) ≡ false
    and_none true = refl
    and_none false = refl
end_reads how (Local queue) p h free s n = bool_case (is_input how.input) (λ b. is_input how.input ≡ b → (b && bytes_eq s.queue queue) ≡ false)
    (λ z i. bool_case (bytes_eq s.queue queue) (λ b. bytes_eq s.queue queue ≡ b → b ≡ false)
    (λ w e.
    let same : s.queue ≡ queue = name_yes s.queue queue e in
    absurd (opened_one queue (is_input how.input) (is_transmission_queue (local_of queue p.definitions)) (read_by_sender queue p) (has_held queue p) i
    (subst (λ (d : List ℕ). is_transmission_queue (local_of d p.definitions) ≡ true) same (h.sends s n))
    (is_seized queue p s n same)
    (right_none (is_shut how.input queue p) (is_sending how.input queue p) free)))
    (λ w e. refl) refl)
    (λ z i. refl) refl
  where
    is_seized : (d : List ℕ) (p : Plain) (s : Seizure) → Mem s p.channels.seizures → s.queue ≡ d → read_by_sender d p ≡ true
    is_seized d p s n e = bool_case (read_by_sender d p) (λ b. read_by_sender d p ≡ b → b ≡ true) (λ z f. refl)
        (λ z f. absurd (true≢false (sym (name_self d) ∙ ap (λ (x : List ℕ). bytes_eq d x) (sym e) ∙ none_any (λ (x : Seizure). bytes_eq d x.queue) p.channels.seizures f s n))) refl

end_strays : (how : Open) (end : RouteEnd) (p : Plain) → is_unfit how end p ≡ false → (is_input how.input && not (leads_to (queue_at end) end)) ≡ false
end_strays how (Via xq rq rqm) p fit = ap (λ (b : Bool). b && true) (left_none (is_input how.input) how.browse fit)
end_strays how (Local queue) p fit = ap (λ (b : Bool). is_input how.input && not b) (name_self queue) ∙ and_none (is_input how.input)
  where
    and_none : (a : Bool) → (a && false) ≡ false
    and_none true = refl
    and_none false = refl

opens_handle : (c : Connection) (how : Open) (route : Route) (p : Plain) → AreSeized p → is_unfit how route.end p ≡ false → is_in_use how route.end p ≡ false → AreSeized (apply (OpenHandle c.number (new_handle how route c)) p)
opens_handle c how route p h fit free = record {
  local = added strays (end_strays how route.end p fit) h.local;
  sends = h.sends;
  unread = λ s n. none_reads s.queue (apply (OpenHandle c.number (new_handle how route c)) p) (added (reads s.queue) (end_reads how route.end p h free s n) (reads_none s.queue p (h.unread s n)));
  alone = h.alone;
  held = h.held;
}
  where
    added : (test : Handle → Bool) → test (new_handle how route c) ≡ false → ((d : Connection) → Mem d p.connections → (x : Handle) → Mem x d.handles → test x ≡ false)
        → (d : Connection) → Mem d (apply (OpenHandle c.number (new_handle how route c)) p).connections → (x : Handle) → Mem x d.handles → test x ≡ false
    added test e r = changed_none test c.number (λ (o : Connection). record o { handles = o.handles ++ new_handle how route c ∷ []; last_handle = o.last_handle + 1 }) p.connections r
        (λ o n x k. elim (mem_append x o.handles (new_handle how route c ∷ []) k) [
          | inl w ↦ r o n x w
          | inr w ↦ elim w [ inl z ↦ ap test z ∙ e | inr z ↦ absurd z ]
        ])

-- a table of refusals of which none applies
rest_none : {F : Type 0} (t : Test F) (ts : List (Test F)) → refusal (t ∷ ts) ≡ None → (t.applies ≡ false) × (refusal ts ≡ None)
rest_none t ts e = bool_case t.applies (λ b. (if b then Some t.reason else refusal ts) ≡ None → (b ≡ false) × (refusal ts ≡ None)) (λ z f. absurd (some_not t.reason f)) (λ z f. (refl, f)) e
  where
    some_not : {F : Type 0} (r : F) → Some r ≡ None → ⊥
    some_not r f = cc

-- all of a table
abbrev pub AllNone : {F : Type 0} → List (Test F) → Type 0
AllNone [] = Unit {0}
AllNone (t ∷ ts) = (t.applies ≡ false) × AllNone ts

pub tests_none : {F : Type 0} (ts : List (Test F)) → refusal ts ≡ None → AllNone ts
tests_none [] e = tt
tests_none (t ∷ ts) e = let r = rest_none t ts e in (r.0, tests_none ts r.1)

passed_none : {F : Type 0} (o : Option F) (u : Unit {0}) → passed o ≡ Ok u → o ≡ None
passed_none None u e = refl
passed_none (Some r) u e = absurd cc

-- STEPS
pub tested_keeps : {F T : Type 0} (ts : List (Test F)) (s : Step F T) (p : Plain) → (refusal ts ≡ None → StepKeeps AreSeized s p) → StepKeeps AreSeized (tested ts s) p
tested_keeps {F} {T} ts s p k = by (refusal ts) refl
  where
    by : (o : Option F) → refusal ts ≡ o → StepKeeps AreSeized (refused_or o s) p
    by None e = k e
    by (Some reason) e = tt

going_keeps : {A F T : Type 0} (r : Result A F) (f : A → Step F T) (p : Plain) → ((a : A) → r ≡ Ok a → StepKeeps AreSeized (f a) p) → StepKeeps AreSeized (going_on r f) p
going_keeps (Ok a) f p k = k a refl
going_keeps (Err reason) f p k = tt

live_keeps : {T : Type 0} (r : Result Connection Reason) (f : Connection → Step Reason T) (p : Plain) → ((c : Connection) → r ≡ Ok c → StepKeeps AreSeized (f c) p) → StepKeeps AreSeized (for_connection r f) p
live_keeps (Ok c) f p k = k c refl
live_keeps (Err reason) f p k = tt

open_keeps : {T : Type 0} (o : Option Handle) (f : Handle → Step Reason T) (p : Plain) → ((h : Handle) → o ≡ Some h → StepKeeps AreSeized (f h) p) → StepKeeps AreSeized (for_handle o f) p
open_keeps (Some h) f p k = k h refl
open_keeps None f p k = tt

-- MQOPEN
abbrev routed : Connection → Open → Plain → Route → Step Reason (Answer Hobj)
routed c how p route = none_of (open_tests c how route p) >>= (λ fits. open_step c how route)

abbrev asked : List ℕ → List ℕ → Open → Plain → Connection → Step Reason (Answer Hobj)
asked name qmgr how p c = none_of (option_tests how) >>= (λ chosen. resolve p.definitions p.given.name name qmgr >>= routed c how p)

pub opens : (hc : Hconn) (name qmgr : List ℕ) (how : Open) (p : Plain) → AreSeized p → StepKeeps AreSeized (mqopen hc name qmgr how p) p
opens hc name qmgr how p h = going_keeps (connected hc p) (asked name qmgr how p) p (λ c e.
    going_keeps (none_of (option_tests how)) (λ chosen. resolve p.definitions p.given.name name qmgr >>= routed c how p) p (λ chosen e1.
    going_keeps (resolve p.definitions p.given.name name qmgr) (routed c how p) p (λ route e2.
    going_keeps (none_of (open_tests c how route p)) (λ fits. open_step c how route) p (λ fits e3.
    let t = tests_none (open_tests c how route p) (passed_none (refusal (open_tests c how route p)) fits e3) in
    (opens_handle c how route p h t.0 t.1.0, tt)))))

-- MQGET
connection_mem : (n : ℕ) (cs : List Connection) (c : Connection) → connection_at n cs ≡ Some c → Mem c cs
connection_mem n [] c e = absurd cc
connection_mem n (x ∷ xs) c e = bool_case (x.number == n) (λ b. (if b then Some x else connection_at n xs) ≡ Some c → Mem c (x ∷ xs)) (λ z f. inl (same x c f)) (λ z f. inr (connection_mem n xs c f)) e
  where
    same : (x c : Connection) → Some x ≡ Some c → c ≡ x
    same x c f = cc

handle_mem : (n : ℕ) (hs : List Handle) (h : Handle) → handle_at n hs ≡ Some h → Mem h hs
handle_mem n [] h e = absurd cc
handle_mem n (x ∷ xs) h e = bool_case (x.number == n) (λ b. (if b then Some x else handle_at n xs) ≡ Some h → Mem h (x ∷ xs)) (λ z f. inl (same x h f)) (λ z f. inr (handle_mem n xs h f)) e
  where
    same : (x h : Handle) → Some x ≡ Some h → h ≡ x
    same x h f = cc

conflict : (i a : Bool) → i ≡ true → (i && not a) ≡ false → (i && a) ≡ false → ⊥
conflict i true e f g = true≢false (sym (ap (λ b. b && true) e) ∙ g)
conflict i false e f g = true≢false (sym (ap (λ b. b && true) e) ∙ f)

-- who reads a queue is no sender
no_sender : (c : Connection) (x : Handle) (p : Plain) → AreSeized p → Mem c p.connections → Mem x c.handles → is_input x.how.input ≡ true → (s : Seizure) → Mem s p.channels.seizures → s.queue ≡ queue_at x.leads → ⊥
no_sender c x p h m n i s k e = conflict (is_input x.how.input) (leads_to (queue_at x.leads) x.leads) i (h.local c m x n)
    (subst (λ (d : List ℕ). (is_input x.how.input && leads_to d x.leads) ≡ false) e (reads_none s.queue p (h.unread s k) c m x n))

takes_so : (sync : Bool) (c : Connection) (x : Handle) (row : Row) (p : Plain) → AreSeized p → Mem c p.connections → Mem x c.handles → is_input x.how.input ≡ true → AreSeized (do_part (taking_part sync c (queue_at x.leads) row) p)
takes_so true c x row p h m n i = change_leaves (Pend c.number (Taken (queue_at x.leads) row.message.ident (is_persistent row.message))) _ refl
    (holds (queue_at x.leads) (row.message.ident ∷ []) (holders.Unit c.number) p h (λ s k e. absurd (no_sender c x p h m n i s k e)))
takes_so false c x row p h m n i = (parts_leave (taking_part false c (queue_at x.leads) row ∷ []) p refl h).0

found_so : (get : Get) (c : Connection) (x : Handle) (row : Row) (p : Plain) → AreSeized p → Mem c p.connections → Mem x c.handles → (is_destructive get.take ≡ true → is_input x.how.input ≡ true) → AreSeized (do_part (found_part get c x (queue_at x.leads) row) p)
found_so get c x row p h m n i = bool_case (is_destructive get.take) (λ b. (b ≡ true → is_input x.how.input ≡ true) → AreSeized (do_part (if b then taking_part get.sync c (queue_at x.leads) row else silent (SetCursor c.number x.number row.place ∷ [])) p))
    (λ z f. takes_so get.sync c x row p h m n (f refl))
    (λ z f. change_leaves (SetCursor c.number x.number row.place) p refl h) i

logged_connections : (o : Option LogRecord) (p : Plain) → (logged o p).connections ≡ p.connections
logged_connections None p = refl
logged_connections (Some r) p = refl

behind_so : (get : Get) (c : Connection) (x : Handle) (row : Row) (q : List ℕ) (rows : List Row) (p : Plain) → AreSeized p → Mem c p.connections → Mem x c.handles → (is_destructive get.take ≡ true → is_input x.how.input ≡ true)
    → AllKeep AreSeized (expired_parts q rows ++ found_part get c x (queue_at x.leads) row ∷ []) p
behind_so get c x row q [] p h m n i = (found_so get c x row p h m n i, tt)
behind_so get c x row q (y ∷ ys) p h m n i =
    let part : Part = removal_part whys.Expired q (y ∷ ys) in
    let next : AreSeized (do_part part p) = (parts_leave (part ∷ []) p refl h).0 in
    (next, (found_so get c x row (do_part part p) next (subst (λ (cs : List Connection). Mem c cs) (sym (logged_connections part.forced p)) m) n i, tt))

without_so : (under waiting : Bool) (before : List Part) (p : Plain) → AllKeep AreSeized before p → StepKeeps AreSeized (without_row under waiting before) p
without_so true waiting before p k = k
without_so false true before p k = tt
without_so false false before p k = k

with_so : (left : Bool) (get : Get) (c : Connection) (x : Handle) (row : Row) (q : List ℕ) (rows : List Row) (p : Plain) → AreSeized p → Mem c p.connections → Mem x c.handles → (is_destructive get.take ≡ true → is_input x.how.input ≡ true)
    → StepKeeps AreSeized (with_row left get c x (queue_at x.leads) row (expired_parts q rows)) p
with_so true get c x row q rows p h m n i = parts_leave (expired_parts q rows) p (parts_bare_plain (expired_parts q rows) (removal_bare whys.Expired q rows)) h
with_so false get c x row q rows p h m n i = behind_so get c x row q rows p h m n i

got_so : (get : Get) (until : Option ℕ) (c : Connection) (x : Handle) (rows : List Row) (o : Option Row) (p : Plain) → AreSeized p → Mem c p.connections → Mem x c.handles → (is_destructive get.take ≡ true → is_input x.how.input ≡ true)
    → StepKeeps AreSeized (get_found get until p c x (expired_parts (queue_at x.leads) rows) o) p
got_so get until c x rows None p h m n i = without_so (is_under get.take) (is_waiting until p) (expired_parts (queue_at x.leads) rows) p (parts_leave (expired_parts (queue_at x.leads) rows) p (parts_bare_plain (expired_parts (queue_at x.leads) rows) (removal_bare whys.Expired (queue_at x.leads) rows)) h)
got_so get until c x rows (Some row) p h m n i = with_so (is_left get row.message) get c x row (queue_at x.leads) rows p h m n i

asks_input : (d i : Bool) → (d && not i) ≡ false → d ≡ true → i ≡ true
asks_input true true e f = refl
asks_input true false e f = absurd cc
asks_input false i e f = absurd cc

pub gets : (hc : Hconn) (ho : Hobj) (get : Get) (until : Option ℕ) (p : Plain) → AreSeized p → StepKeeps AreSeized (mqget hc ho get until p) p
gets hc ho get until p h = live_keeps (connected hc p) (get_up ho get until p) p (λ c e.
    open_keeps (handle_at ho.number c.handles) (get_handle get until p c) p (λ x e2.
    tested_keeps (get_tests get p c x) (get_scanned get until p c x (scanned get x p)) p (λ e3.
    let t = tests_none (get_tests get p c x) e3 in
    tested_keeps (room_tests get c (scanned get x p) p) (get_found get until p c x (expired_parts (queue_at x.leads) (scanned get x p).expired) (scanned get x p).found) p (λ e4.
    got_so get until c x (scanned get x p).expired (scanned get x p).found p h (connection_mem c.number p.connections c (is_live hc c p e)) (handle_mem ho.number c.handles x e2) (asks_input (is_destructive get.take) (is_input x.how.input) t.1.0)))))
