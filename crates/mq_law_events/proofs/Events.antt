-- Each call of an application: the ledger follows.
use Rattle.std.proofs.Common.{ℕ, ◌≡◌, ◌+◌, Bool, true, false, List, [], ◌∷◌, ◌++◌, refl, ap, sym, subst, ◌∙◌}
use Rattle.std.specs.Prelude.{Option, Some, None, Result, Ok, Err, ◌==◌, if◌then◌else◌, flat_map}
use Rattle.mq_message.specs.declared.message.Ident.{Ident}
use Rattle.mq_message.specs.declared.message.Md.{Md}
use Rattle.mq_message.specs.declared.message.Message.{Message}
use Rattle.mq_codes.specs.declared.reason.Reason.{Reason}
use Rattle.mq_codes.specs.declared.reason.Reason.TheVariants as reasons
use Rattle.mq_resolve.specs.declared.route.Route.{Route}
use Rattle.mq_resolve.specs.Resolved.{resolve}
use Rattle.mq_calls.specs.declared.answers.Answer.{Answer}
use Rattle.mq_calls.specs.declared.answers.Answer.TheVariants as answers
use Rattle.mq_calls.specs.declared.answers.Appl.{Appl}
use Rattle.mq_calls.specs.declared.answers.Hconn.{Hconn}
use Rattle.mq_calls.specs.declared.answers.Hobj.{Hobj}
use Rattle.mq_calls.specs.declared.answers.Open.{Open}
use Rattle.mq_calls.specs.declared.answers.Sent.{Sent}
use Rattle.mq_calls.specs.declared.deltas.Did.{Did}
use Rattle.mq_calls.specs.declared.records.LogRecord.{LogRecord}
use Rattle.mq_calls.specs.declared.state.Connection.{Connection}
use Rattle.mq_calls.specs.declared.state.Handle.{Handle}
use Rattle.mq_calls.specs.declared.state.Item.{Item}
use Rattle.mq_calls.specs.declared.state.Item.TheVariants.{Put, Take}
use Rattle.mq_law_seen.specs.from_history.ReplyVariants as replies
use Rattle.mq_calls.specs.State.{Plain, Change, LogState}
use Rattle.mq_calls.specs.State.Change.{CountIdent, Connect, OpenHandle, CloseHandle, Pend, EndUnit}
use Rattle.mq_calls.specs.Reads.{connection_at, handle_at}
use Rattle.mq_calls.specs.Changes.{apply, apply_all}
use Rattle.mq_calls.specs.Steps.{none_of, Step, Part, Test, tested, refusal, refused_or, going_on, silent, logged, do_part, delta_of}
use Rattle.mq_calls.specs.Steps.{when as when_test}
use Rattle.mq_calls.specs.Steps.Step.{Do}
use Rattle.mq_spec_manager.specs.Handles.{is_unfit, connected, for_connection, for_handle, live_or, is_other, is_present, mqconn, mqopen, mqclose, open_tests, open_step, option_tests, conn_tests, close_up, close_handle, new_connection, new_hconn, new_handle}
use Rattle.mq_spec_manager.specs.Put.{output_only, here, unit_record, mqput, mqput1, put_up, put_handle, put_route, put_part, put1_resolved, handle_route, output_tests, put_tests, placed, queue_at, message_put, new_message, next_ident, is_high, sent_answer}
use Rattle.mq_spec_manager.specs.Units.{released_did, commit_changes, commit_delta, mqcmit, mqback, commit_part, backout_part, removed_item, placed_did, taken_item, placed_item, freed_item}
use Rattle.mq_law_seen.specs.from_spec_network.Ledger as ledgers
use Rattle.mq_law_seen.specs.from_spec_network.Ledger.{Ledger, places_or, users_or, take_all_gone, connect_if, open_if, close_if, when, is_ended, sent_ident}
use Rattle.mq_law_seen.proofs.from_law_rows.Lists.{bool_case, eqb_yes}
use Rattle.mq_law_manager.proofs.SeenLaws.{mapped_one}
use Rattle.mq_law_manager.proofs.Units.{behind, found_number}
use Rattle.mq_law_events.specs.Tied.{connection_told, IsTold, IsFresh, Follow}
use Rattle.mq_law_events.specs.Posting.{IsListed, StepFollows, IsTimed}
use Rattle.mq_law_events.proofs.Telling.{connection_at_told, handle_at_told, one_handle}
use Rattle.mq_law_events.proofs.Putting.{put_follows, pend_follows}
use Rattle.mq_law_events.proofs.Committing.{commit_follows, backout_follows, committed}
use Rattle.mq_law_events.proofs.Calling.{connect_follows, open_follows, close_follows}

-- Steps, and what they rest on

pub tested_follows : {F T : Type 0} (m : ℕ) (given : Ident → Bool) (p : Plain) (l : Ledger) (post : T → List Did → Ledger → Ledger) (ts : List (Test F)) (s : Step F T) → (refusal ts ≡ None → StepFollows m given p l post s) → StepFollows m given p l post (tested ts s)
tested_follows m given p l post ts s k = at (refusal ts) refl
  where
    at : (o : Option _) → refusal ts ≡ o → StepFollows m given p l post (refused_or o s)
    at None e = k e
    at (Some reason) e = tt

going_follows : {A F T : Type 0} (m : ℕ) (given : Ident → Bool) (p : Plain) (l : Ledger) (post : T → List Did → Ledger → Ledger) (r : Result A F) (f : A → Step F T) → ((x : A) → r ≡ Ok x → StepFollows m given p l post (f x)) → StepFollows m given p l post (going_on r f)
going_follows m given p l post (Ok x) f k = k x refl
going_follows m given p l post (Err e) f k = tt

pub for_live : {T : Type 0} (m : ℕ) (given : Ident → Bool) (p : Plain) (l : Ledger) (post : T → List Did → Ledger → Ledger) (r : Result Connection Reason) (f : Connection → Step Reason T) → ((c : Connection) → r ≡ Ok c → StepFollows m given p l post (f c)) → StepFollows m given p l post (for_connection r f)
for_live m given p l post (Ok c) f k = k c refl
for_live m given p l post (Err e) f k = tt

pub for_open : {T : Type 0} (m : ℕ) (given : Ident → Bool) (p : Plain) (l : Ledger) (post : T → List Did → Ledger → Ledger) (o : Option Handle) (f : Handle → Step Reason T) → ((h : Handle) → o ≡ Some h → StepFollows m given p l post (f h)) → StepFollows m given p l post (for_handle o f)
for_open m given p l post (Some h) f k = k h refl
for_open m given p l post None f k = tt

-- a connection that a call finds
abbrev some_of : Result Connection Reason → Option Connection
some_of (Ok c) = Some c
some_of (Err r) = None

live_found : (c : Connection) (o : Option Connection) → live_or o ≡ Ok c → o ≡ Some c
live_found c None e = absurd cc
live_found c (Some d) e = ap some_of e

pub lives : (hc : Hconn) (c : Connection) (p : Plain) → connected hc p ≡ Ok c → connection_at hc.number p.connections ≡ Some c
lives hc c p e = bool_two (is_other hc p) (is_present hc p) e
  where
    bool_two : (a b : Bool) → (if a then Err reasons.ConnectionHandleError else (if b then live_or (connection_at hc.number p.connections) else Err reasons.ConnectionBroken)) ≡ Ok c → connection_at hc.number p.connections ≡ Some c
    bool_two true b f = absurd cc
    bool_two false true f = live_found c (connection_at hc.number p.connections) f
    bool_two false false f = absurd cc

abbrev number_or : Option Handle → ℕ
number_or None = 0
number_or (Some h) = h.number

handle_number : (n : ℕ) (h : Handle) (hs : List Handle) → handle_at n hs ≡ Some h → h.number ≡ n
handle_number n h [] e = absurd cc
handle_number n h (x ∷ hs) e = bool_case (x.number == n) (λ t. (x.number == n) ≡ t → (if t then Some x else handle_at n hs) ≡ Some h → h.number ≡ n)
    (λ z w f. sym (ap number_or f) ∙ eqb_yes x.number n w) (λ z w f. handle_number n h hs f) refl e

-- MQCONN, MQOPEN, MQCLOSE

pub connects : (m : ℕ) (given : Ident → Bool) (p : Plain) (l : Ledger) (qmgr : List ℕ) (appl : Appl) → IsFresh given p → IsTold m p l
    → StepFollows m given p l (λ reply ds k. connect_if m appl (replies.Connected reply) k) (mqconn qmgr appl p)
connects m given p l qmgr appl f t = tested_follows m given p l (λ reply ds k. connect_if m appl (replies.Connected reply) k) (conn_tests qmgr p) (Do (answers.Ok (new_hconn p)) (silent (Connect (new_connection appl p) ∷ []) ∷ [])) (λ e. connect_follows m given p l appl f t)

pub opens : (m : ℕ) (given : Ident → Bool) (p : Plain) (l : Ledger) (hc : Hconn) (name qmgr : List ℕ) (how : Open) → IsFresh given p → IsTold m p l
    → StepFollows m given p l (λ reply ds k. open_if m hc name qmgr how (replies.Opened reply) k) (mqopen hc name qmgr how p)
opens m given p l hc name qmgr how f t =
    let post : Answer Hobj → List Did → Ledger → Ledger = λ reply ds k. open_if m hc name qmgr how (replies.Opened reply) k in
    let by_route : Connection → Route → Step Reason (Answer Hobj) = λ c route. going_on (none_of (open_tests c how route p)) (λ fits. open_step c how route) in
    let by_name : Connection → Step Reason (Answer Hobj) = λ c. going_on (resolve p.definitions p.given.name name qmgr) (by_route c) in
    going_follows m given p l post (connected hc p) (λ c. going_on (none_of (option_tests how)) (λ chosen. by_name c)) (λ c e.
    going_follows m given p l post (none_of (option_tests how)) (λ chosen. by_name c) (λ x e2.
    going_follows m given p l post (resolve p.definitions p.given.name name qmgr) (by_route c) (λ route is.
    going_follows m given p l post (none_of (open_tests c how route p)) (λ fits. open_step c how route) (λ y e3.
    subst (λ n. Follow m given p l (apply (OpenHandle n (new_handle how route c)) p) (ledgers.open_to m hc how (record { number = c.last_handle + 1 }) (ledgers.resolved_at m name qmgr l) l))
    (sym (found_number hc.number c p.connections (lives hc c p e))) (open_follows m given p l hc c name qmgr how route f t is)))))

pub closes : (m : ℕ) (given : Ident → Bool) (p : Plain) (l : Ledger) (hc : Hconn) (ho : Hobj) → IsFresh given p → IsTold m p l
    → StepFollows m given p l (λ reply ds k. close_if m hc ho (replies.Ended reply) k) (mqclose hc ho p)
closes m given p l hc ho f t =
    let post : Answer (Unit {0}) → List Did → Ledger → Ledger = λ reply ds k. close_if m hc ho (replies.Ended reply) k in
    for_live m given p l post (connected hc p) (close_up ho) (λ c e.
    for_open m given p l post (handle_at ho.number c.handles) (close_handle c) (λ h e2.
    subst (λ n. Follow m given p l (apply (CloseHandle n h.number) p) (ledgers.on_connection m hc (ledgers.close ho) l)) (sym (found_number hc.number c p.connections (lives hc c p e)))
    (subst (λ n. Follow m given p l (apply (CloseHandle hc.number n) p) (ledgers.on_connection m hc (ledgers.close ho) l)) (sym (handle_number ho.number h c.handles e2)) (close_follows m given p l hc ho f t))))

-- A part whose record is written first

pub fresh_logged : (given : Ident → Bool) (r : Option LogRecord) (p : Plain) → IsFresh given p → IsFresh given (logged r p)
fresh_logged given None p f = f
fresh_logged given (Some r) p f = f

pub told_logged : (m : ℕ) (r : Option LogRecord) (p : Plain) (l : Ledger) → IsTold m p l → IsTold m (logged r p) l
told_logged m None p l t = t
told_logged m (Some r) p l t = record { places = t.places; placed = t.placed; shelved = t.shelved; name = t.name; definitions = t.definitions; users = t.users; used = t.used; connections = t.connections }

-- where a record stands in the log
pub from_log : (m : ℕ) (given : Ident → Bool) (p q : Plain) (log : LogState) (l k : Ledger) → Follow m given (record p { log = log }) l q k → Follow m given p l q k
from_log m given p q log l k f = record {
  now = f.now;
  leads = f.leads;
  fresh = f.fresh;
  known = f.known;
  told = f.told;
  same = record { given = f.same.given; senders = f.same.senders; receivers = f.same.receivers; batches = f.same.batches };
  steady = f.steady;
  other = f.other;
  kept = f.kept;
}

pub from_logged : (m : ℕ) (given : Ident → Bool) (r : Option LogRecord) (p q : Plain) (l k : Ledger) → Follow m given (logged r p) l q k → Follow m given p l q k
from_logged m given None p q l k f = f
from_logged m given (Some r) p q l k f = from_log m given p q _ l k f

next_logged : (r : Option LogRecord) (p : Plain) → next_ident (logged r p) ≡ next_ident p
next_logged None p = refl
next_logged (Some r) p = refl

pub live_logged : (n : ℕ) (c : Connection) (r : Option LogRecord) (p : Plain) → connection_at n p.connections ≡ Some c → connection_at n (logged r p).connections ≡ Some c
live_logged n c None p e = e
live_logged n c (Some r) p e = e

-- MQPUT, MQPUT1

pub some_connection : (m : ℕ) (p : Plain) (l : Ledger) (hc : Hconn) (c : Connection) → IsTold m p l → connection_at hc.number p.connections ≡ Some c → ledgers.connection_of m hc l ≡ Some (connection_told c)
some_connection m p l hc c t live =
    ap (λ o. connection_at hc.number (users_or o).connections) t.used
    ∙ ap (λ cs. connection_at hc.number cs) t.connections
    ∙ connection_at_told hc.number p.connections ∙ ap (mapped_one connection_told) live

here_is : (m : ℕ) (p : Plain) (l : Ledger) → IsTold m p l → IsTimed m p l → ledgers.here_at m l ≡ here p
here_is m p l t w = λ i. record {
  own = (ap (λ o. (places_or o).name) t.placed ∙ t.name) i;
  definitions = (ap (λ o. (places_or o).definitions) t.placed ∙ t.definitions) i;
  moment = (ap (λ o. (users_or o).moment) w.used ∙ w.moment) i;
}

-- the ledger's row is the manager's
pub put_by_is : (m : ℕ) (p : Plain) (l : Ledger) (sync : Bool) (hc : Hconn) (c : Connection) (route : Route) (md : Md) (body : List ℕ) → IsTold m p l → IsTimed m p l
    → ledgers.put_by sync m hc (connection_told c) route (next_ident p) md body l ≡ ledgers.put_row sync m hc (queue_at route.end) (new_message c route md body p) l
put_by_is m p l sync hc c route md body t w = ap (λ h. ledgers.put_row sync m hc (queue_at route.end) (message_put (next_ident p) c.appl route md body h) l) (here_is m p l t w)

put_part_follows : (m : ℕ) (given : Ident → Bool) (p : Plain) (l : Ledger) (hc : Hconn) (c : Connection) (sync : Bool) (q : List ℕ) (message : Message) → IsFresh given p → IsTold m p l → message.ident ≡ next_ident p → connection_at hc.number p.connections ≡ Some c
    → Follow m given p l (do_part (put_part sync c q message) p) (ledgers.put_row sync m hc q message l)
put_part_follows m given p l hc c true q message f t is live = subst (λ n. Follow m given p l (apply_all (CountIdent ∷ Pend n (Put q message) ∷ []) p) (ledgers.pend m hc (Put q message) l))
    (sym (found_number hc.number c p.connections live)) (pend_follows m given p l hc c q message f t is live)
put_part_follows m given p l hc c false q message f t is live =
    let r : Option LogRecord = unit_record q message in
    from_logged m given r p (apply_all (CountIdent ∷ placed q message) (logged r p)) l (ledgers.place m q message l)
    (put_follows m given (logged r p) l q message (fresh_logged given r p f) (told_logged m r p l t) (is ∙ sym (next_logged r p)))

sent_is : (t : Bool) (message : Message) (ds : List Did) → sent_ident (replies.Put (sent_answer t message)) ds ≡ Some message.ident
sent_is true message ds = refl
sent_is false message ds = refl

-- what a put tells takes nothing
nothing_gone : (m : ℕ) (sync : Bool) (c : Connection) (q : List ℕ) (message : Message) (l : Ledger) → take_all_gone m (delta_of (put_part sync c q message ∷ [])) l ≡ l
nothing_gone m true c q message l = refl
nothing_gone m false c q message l = refl

put_route_follows : (m : ℕ) (given : Ident → Bool) (p : Plain) (l : Ledger) (hc : Hconn) (c : Connection) (route : Route) (md : Md) (body : List ℕ) (sync : Bool) (post : Answer Sent → List Did → Ledger → Ledger) → IsFresh given p → IsTold m p l → IsTimed m p l
    → connection_at hc.number p.connections ≡ Some c
    → ((high : Bool) (ds : List Did) → post (sent_answer high (new_message c route md body p)) ds l ≡ ledgers.put_by sync m hc (connection_told c) route (next_ident p) md body l)
    → StepFollows m given p l post (put_route c route md body sync p)
put_route_follows m given p l hc c route md body sync post f t w live is =
    let message : Message = new_message c route md body p in
    let part : Part = put_part sync c (queue_at route.end) message in
    tested_follows m given p l post (put_tests c route md body sync message p) _ (λ e.
    subst (λ k. Follow m given p l (do_part part p) k)
    (sym (ap (post (sent_answer (is_high md.priority) message) (delta_of (part ∷ []))) (nothing_gone m sync c (queue_at route.end) message l) ∙ is (is_high md.priority) (delta_of (part ∷ [])) ∙ put_by_is m p l sync hc c route md body t w))
    (put_part_follows m given p l hc c sync (queue_at route.end) message f t refl live))

pub puts : (m : ℕ) (given : Ident → Bool) (p : Plain) (l : Ledger) (hc : Hconn) (ho : Hobj) (md : Md) (body : List ℕ) (sync : Bool) → IsFresh given p → IsTold m p l → IsTimed m p l
    → StepFollows m given p l (λ reply ds k. ledgers.put sync m hc ho (ledgers.connection_of m hc k) (sent_ident (replies.Put reply) ds) md body k) (mqput hc ho md body sync p)
puts m given p l hc ho md body sync f t w =
    let post : Answer Sent → List Did → Ledger → Ledger = λ reply ds k. ledgers.put sync m hc ho (ledgers.connection_of m hc k) (sent_ident (replies.Put reply) ds) md body k in
    for_live m given p l post (connected hc p) (put_up ho md body sync p) (λ c e.
    let live = lives hc c p e in
    for_open m given p l post (handle_at ho.number c.handles) (put_handle md body sync p c) (λ h e2.
    tested_follows m given p l post (output_tests h) _ (λ e3.
    put_route_follows m given p l hc c (handle_route h) md body sync post f t w live (λ high ds.
    (λ i. ledgers.put sync m hc ho (some_connection m p l hc c t live i) (sent_is high (new_message c (handle_route h) md body p) ds i) md body l)
    ∙ ap (λ o. ledgers.put_through sync m hc (connection_told c) o (next_ident p) md body l) (handle_at_told ho.number c.handles ∙ ap one_handle e2)))))

pub puts_once : (m : ℕ) (given : Ident → Bool) (p : Plain) (l : Ledger) (hc : Hconn) (name qmgr : List ℕ) (md : Md) (body : List ℕ) (sync : Bool) → IsFresh given p → IsTold m p l → IsTimed m p l
    → StepFollows m given p l (λ reply ds k. ledgers.put1 sync m hc name qmgr (ledgers.connection_of m hc k) (sent_ident (replies.Put reply) ds) md body k) (mqput1 hc name qmgr md body sync p)
puts_once m given p l hc name qmgr md body sync f t w =
    let post : Answer Sent → List Did → Ledger → Ledger = λ reply ds k. ledgers.put1 sync m hc name qmgr (ledgers.connection_of m hc k) (sent_ident (replies.Put reply) ds) md body k in
    for_live m given p l post (connected hc p) (put1_resolved (resolve p.definitions p.given.name name qmgr) md body sync p) (λ c e. go c (lives hc c p e) (resolve p.definitions p.given.name name qmgr) refl)
  where
    go : (c : Connection) → connection_at hc.number p.connections ≡ Some c → (r : Result Route Reason) → resolve p.definitions p.given.name name qmgr ≡ r
        → StepFollows m given p l (λ reply ds k. ledgers.put1 sync m hc name qmgr (ledgers.connection_of m hc k) (sent_ident (replies.Put reply) ds) md body k) (put1_resolved r md body sync p c)
    go c live (Err reason) is = tt
    go c live (Ok route) is = tested_follows m given p l (λ reply ds k. ledgers.put1 sync m hc name qmgr (ledgers.connection_of m hc k) (sent_ident (replies.Put reply) ds) md body k)
        (when_test (is_unfit output_only route.end p) reasons.OptionNotValidForType ∷ []) (put_route c route md body sync p) (λ e.
        put_route_follows m given p l hc c route md body sync (λ reply ds k. ledgers.put1 sync m hc name qmgr (ledgers.connection_of m hc k) (sent_ident (replies.Put reply) ds) md body k) f t w live (λ high ds.
        (λ i. ledgers.put1 sync m hc name qmgr (some_connection m p l hc c t live i) (sent_is high (new_message c route md body p) ds i) md body l)
        ∙ ap (λ r. ledgers.put1_by sync m hc (connection_told c) r (next_ident p) md body l)
        (ap (λ o. resolve (places_or o).definitions (places_or o).name name qmgr) t.placed ∙ (λ i. resolve (t.definitions i) (t.name i) name qmgr) ∙ is)))

-- MQCMIT, MQBACK, MQDISC

placed_none : (m : ℕ) (items : List Item) (l : Ledger) → take_all_gone m (flat_map placed_did items) l ≡ l
placed_none m [] l = refl
placed_none m (Put q message ∷ items) l = placed_none m items l
placed_none m (Take q i lasting ∷ items) l = placed_none m items l

removed_none : (m : ℕ) (items : List Item) (ds : List Did) (l : Ledger) → take_all_gone m (flat_map removed_item items ++ ds) l ≡ take_all_gone m ds l
removed_none m [] ds l = refl
removed_none m (Put q message ∷ items) ds l = removed_none m items ds l
removed_none m (Take q i lasting ∷ items) ds l = removed_none m items ds l

released_none : (m : ℕ) (items : List Item) (l : Ledger) → take_all_gone m (flat_map released_did items) l ≡ l
released_none m [] l = refl
released_none m (Put q message ∷ items) l = released_none m items l
released_none m (Take q i lasting ∷ items) l = released_none m items l

none_behind : {A : Type 0} (xs : List A) → xs ++ [] ≡ xs
none_behind [] = refl
none_behind (x ∷ xs) = ap (λ ys. x ∷ ys) (none_behind xs)

pub listed_logged : (n : ℕ) (r : Option LogRecord) (p : Plain) → IsListed n p → IsListed n (logged r p)
listed_logged n None p h = h
listed_logged n (Some r) p h = h

-- the changes of a commit, one half behind the other
pub commit_is : (hc : Hconn) (c : Connection) (more : List Change) (p : Plain) → c.number ≡ hc.number → apply_all (commit_changes c ++ more) p ≡ apply_all more (committed hc c p)
commit_is hc c more p e =
    behind (commit_changes c) more p
    ∙ ap (apply_all more) (behind (flat_map taken_item c.unit ++ flat_map placed_item c.unit) (EndUnit c.number ∷ []) p
    ∙ ap (apply (EndUnit c.number)) (behind (flat_map taken_item c.unit) (flat_map placed_item c.unit) p)
    ∙ ap (λ n. apply (EndUnit n) (apply_all (flat_map placed_item c.unit) (apply_all (flat_map taken_item c.unit) p))) e)

pub commit_gone : (m : ℕ) (more : List Change) (c : Connection) (l : Ledger) → take_all_gone m (delta_of (commit_part more c ∷ [])) l ≡ l
commit_gone m more c l = ap (λ ds. take_all_gone m ds l) (none_behind (commit_delta c)) ∙ removed_none m c.unit (flat_map placed_did c.unit) l ∙ placed_none m c.unit l

pub commits : (m : ℕ) (given : Ident → Bool) (p : Plain) (l : Ledger) (hc : Hconn) → IsFresh given p → IsTold m p l → IsListed hc.number p
    → StepFollows m given p l (λ reply ds k. when (is_ended (replies.Ended reply)) (ledgers.commit m hc) k) (mqcmit hc p)
commits m given p l hc f t listed =
    for_live m given p l (λ reply ds k. when (is_ended (replies.Ended reply)) (ledgers.commit m hc) k) (connected hc p) (λ c. Do (answers.Ok tt) (commit_part [] c ∷ [])) (λ c e.
    let live = lives hc c p e in
    let r : Option LogRecord = (commit_part [] c).forced in
    let q : Plain = logged r p in
    subst (λ k. Follow m given p l (do_part (commit_part [] c) p) (ledgers.commit m hc k)) (sym (commit_gone m [] c l))
    (from_logged m given r p (do_part (commit_part [] c) p) l (ledgers.commit m hc l)
    (subst (λ z. Follow m given q l z (ledgers.commit m hc l)) (sym (commit_is hc c [] q (found_number hc.number c p.connections live)))
    (commit_follows m given q l hc c (fresh_logged given r p f) (told_logged m r p l t) (live_logged hc.number c r p live) (listed_logged hc.number r p listed)))))

pub backs_out : (m : ℕ) (given : Ident → Bool) (p : Plain) (l : Ledger) (hc : Hconn) → IsFresh given p → IsTold m p l → IsListed hc.number p
    → StepFollows m given p l (λ reply ds k. when (is_ended (replies.Ended reply)) (ledgers.back_out m hc) k) (mqback hc p)
backs_out m given p l hc f t listed =
    for_live m given p l (λ reply ds k. when (is_ended (replies.Ended reply)) (ledgers.back_out m hc) k) (connected hc p) (λ c. Do (answers.Ok tt) (backout_part c ∷ [])) (λ c e.
    let live = lives hc c p e in
    subst (λ k. Follow m given p l (do_part (backout_part c) p) (ledgers.back_out m hc k)) (sym (ap (λ ds. take_all_gone m ds l) (none_behind (flat_map released_did c.unit)) ∙ released_none m c.unit l))
    (subst (λ z. Follow m given p l z (ledgers.back_out m hc l))
    (sym (behind (flat_map freed_item c.unit) (EndUnit c.number ∷ []) p ∙ ap (λ n. apply (EndUnit n) (apply_all (flat_map freed_item c.unit) p)) (found_number hc.number c p.connections live)))
    (backout_follows m given p l hc c f t live listed)))
