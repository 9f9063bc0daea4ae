-- Each call of an application, each command, and each turn of a manager without channels: what it leaves, and what is posted.
use Rattle.std.proofs.Common.{ℕ, ◌≡◌, Bool, true, false, not, List, [], ◌∷◌, refl, ap, sym}
use Rattle.std.specs.Prelude.{Option, Some, None, Result}
use Rattle.mq_message.specs.declared.message.Ident.{Ident}
use Rattle.mq_message.specs.declared.message.Md.{Md}
use Rattle.mq_codes.specs.declared.reason.Reason.{Reason}
use Rattle.mq_codes.specs.declared.reason.Reason.TheVariants as reasons
use Rattle.mq_frame.specs.declared.frame.Seen.{Seen}
use Rattle.mq_calls.specs.declared.answers.Answer.TheVariants as answers
use Rattle.mq_calls.specs.declared.answers.Appl.{Appl}
use Rattle.mq_calls.specs.declared.answers.Get.{Get}
use Rattle.mq_calls.specs.declared.answers.GetAnswer.{GetAnswer}
use Rattle.mq_calls.specs.declared.answers.GetAnswer.TheVariants as get_answers
use Rattle.mq_calls.specs.declared.answers.Hconn.{Hconn}
use Rattle.mq_calls.specs.declared.answers.Hobj.{Hobj}
use Rattle.mq_calls.specs.declared.answers.Open.{Open}
use Rattle.mq_calls.specs.declared.choices.Choice.{Choice}
use Rattle.mq_calls.specs.declared.choices.Choice.TheVariants.{NoMemory}
use Rattle.mq_calls.specs.declared.state.Connection.{Connection}
use Rattle.mq_history.specs.declared.calls.Actor.{Actor}
use Rattle.mq_history.specs.declared.calls.Call.{Call}
use Rattle.mq_history.specs.declared.calls.Call.TheVariants as calls
use Rattle.mq_history.specs.declared.calls.Chance.{Chance}
use Rattle.mq_history.specs.declared.calls.Chance.TheVariants as chances
use Rattle.mq_history.specs.declared.calls.Entry.{Entry}
use Rattle.mq_history.specs.declared.calls.Reply.{Reply}
use Rattle.mq_history.specs.declared.calls.Reply.TheVariants as replies
use Rattle.mq_calls.specs.State.{Plain, Noted}
use Rattle.mq_calls.specs.State.Change.{Connect, Disconnect}
use Rattle.mq_calls.specs.Reads.{is_up}
use Rattle.mq_calls.specs.Steps.{none_of, going_on, silent, Step, when, refusal, refused_or}
use Rattle.mq_calls.specs.Steps.Step.{Refuse, Do}
use Rattle.mq_spec_manager.specs.Handles.{close_up, option_tests, open_tests, open_step, is_other_name, new_connection, new_hconn, mqconn, mqopen, mqclose}
use Rattle.mq_resolve.specs.Resolved.{resolve}
use Rattle.mq_spec_manager.specs.Put.{put_up, put1_resolved, mqput, mqput1}
use Rattle.mq_spec_manager.specs.Get.{get_up, mqget}
use Rattle.mq_spec_manager.specs.Units.{commit_part, backout_part, mqcmit, mqback, mqdisc}
use Rattle.mq_spec_node.specs.Node.{Node}
use Rattle.mq_spec_node.specs.Deeds.{CanCome, mqi_deed, ended_deed}
use Rattle.mq_spec_node.specs.Happens.{event, IsDeed, done_or, remembering, get_deed}
use Rattle.mq_spec_network.specs.Ledger as ledgers
use Rattle.mq_spec_network.specs.Ledger.{Ledger, posted, connect_if, open_if, close_if, sent_ident, is_ended}
use Rattle.mq_law_manager.proofs.Puts.{mqconn_keeps, mqopen_keeps, mqclose_keeps, mqput_keeps, mqput1_keeps}
use Rattle.mq_law_manager.proofs.Removals.{mqget_keeps}
use Rattle.mq_law_manager.proofs.Units.{mqcmit_keeps, mqback_keeps, mqdisc_keeps}
use Rattle.mq_law_manager.proofs.Stocks.{conn_stocked, open_stocked, close_stocked, put_stocked, put1_stocked, get_stocked, cmit_stocked, back_stocked, disc_stocked}
use Rattle.mq_law_manager.proofs.Ending.{joined}
use Rattle.mq_law_events.specs.Posting.{post_get}
use Rattle.mq_law_events.proofs.Events as events
use Rattle.mq_law_events.proofs.Getting as getting
use Rattle.mq_law_events.proofs.Leaving as leaving
use Rattle.mq_law_manager.proofs.ShortSteps as shorts
use Rattle.mq_law_events.proofs.Halting as halting
use Rattle.mq_law_events.proofs.Sounds.{listed}
use Rattle.mq_law_found.proofs.Putting.{puts_noted, puts_once_noted}
use Rattle.mq_law_found.proofs.Getting.{gets_noted}
use Rattle.mq_law_found.proofs.Ending.{commits_noted, disconnects_noted}
use Rattle.mq_law_one.specs.Alone.{IsAt, Became}
use Rattle.mq_law_one.proofs.Noting.{conn_noted, open_noted, close_noted, back_noted}
use Rattle.mq_law_one.proofs.Happening.{Deeded, entry_of, quiet_happens, step_happens, mqi_happens, ended_happens, Fits, fits_by, connected_down, down_refused, reply_or}

-- what an event comes to, and is posted
abbrev pub Happens : (ledgers.Stopped → Noted → Plain → Type 0) → ℕ → (Ident → Bool) → Node → Ledger → Entry → ℕ → Actor → Call → Chance → Seen → Type 0
Happens E m given n l e stamp actor call chance seen =
    Became E m given n l (event stamp actor call chance seen n).next
    (posted m (entry_of e call chance (event stamp actor call chance seen n).reply (event stamp actor call chance seen n).delta (event stamp actor call chance seen n).received) (event stamp actor call chance seen n).reply l)

-- Calls of applications

conn_down : (qmgr : List ℕ) (appl : Appl) (p : Plain) → is_up p.running ≡ false → (reason : Reason) × (mqconn qmgr appl p ≡ Refuse reason)
conn_down qmgr appl p e = go (is_other_name qmgr p) (is_up p.running) e
  where
    go : (a b : Bool) → b ≡ false → (reason : Reason) × (refused_or (refusal (when a reasons.QueueManagerNameError ∷ when (not b) reasons.QueueManagerNotAvailable ∷ [])) (Do (answers.Ok (new_hconn p)) (silent (Connect (new_connection appl p) ∷ []) ∷ [])) ≡ Refuse reason)
    go true b z = (reasons.QueueManagerNameError, refl)
    go false true z = absurd cc
    go false false z = (reasons.QueueManagerNotAvailable, refl)

pub conn_happens : {E : ledgers.Stopped → Noted → Plain → Type 0} (m : ℕ) (given : Ident → Bool) (n : Node) (l : Ledger) (e : Entry) (actor : Actor) (choice : Choice) (qmgr : List ℕ) (appl : Appl) → IsAt E m given n l → CanCome (mqi_deed replies.Connected n.own (mqconn qmgr appl n.manager)) choice n
    → Deeded E m given n l e actor (calls.Mqconn qmgr appl) choice (mqi_deed replies.Connected n.own (mqconn qmgr appl n.manager))
conn_happens {E} m given n l e actor choice qmgr appl a can =
    let p : Plain = n.manager in
    mqi_happens m given n l e actor (calls.Mqconn qmgr appl) choice replies.Connected (λ reply ds k. connect_if m appl (replies.Connected reply) k) (mqconn qmgr appl p) a
    (fits_by m given p l (λ reply ds k. connect_if m appl (replies.Connected reply) k) (calls.Mqconn qmgr appl) (mqconn qmgr appl p) a.state
    (λ h. (events.connects m given p l qmgr appl a.fresh a.told, halting.step_stops m given p l (mqconn qmgr appl p) a.fresh a.told (shorts.conn_short qmgr appl p), joined (mqconn qmgr appl p) p h (mqconn_keeps qmgr appl p h.facts) (conn_stocked qmgr appl p h.stocked)))
    (λ h k. conn_noted m qmgr appl p)
    (conn_down qmgr appl p))
    (λ answer c ds. refl) (λ reason. refl) can

pub open_happens : {E : ledgers.Stopped → Noted → Plain → Type 0} (m : ℕ) (given : Ident → Bool) (n : Node) (l : Ledger) (e : Entry) (actor : Actor) (choice : Choice) (hc : Hconn) (name qmgr : List ℕ) (how : Open) → IsAt E m given n l → CanCome (mqi_deed replies.Opened n.own (mqopen hc name qmgr how n.manager)) choice n
    → Deeded E m given n l e actor (calls.Mqopen hc name qmgr how) choice (mqi_deed replies.Opened n.own (mqopen hc name qmgr how n.manager))
open_happens {E} m given n l e actor choice hc name qmgr how a can =
    let p : Plain = n.manager in
    mqi_happens m given n l e actor (calls.Mqopen hc name qmgr how) choice replies.Opened (λ reply ds k. open_if m hc name qmgr how (replies.Opened reply) k) (mqopen hc name qmgr how p) a
    (fits_by m given p l (λ reply ds k. open_if m hc name qmgr how (replies.Opened reply) k) (calls.Mqopen hc name qmgr how) (mqopen hc name qmgr how p) a.state
    (λ h. (events.opens m given p l hc name qmgr how a.fresh a.told, halting.step_stops m given p l (mqopen hc name qmgr how p) a.fresh a.told (shorts.open_short hc name qmgr how p), joined (mqopen hc name qmgr how p) p h (mqopen_keeps hc name qmgr how p h.facts) (open_stocked hc name qmgr how p h.stocked)))
    (λ h k. open_noted m hc name qmgr how p)
    (λ z. let d = connected_down hc p z in (d.0, ap (λ (r : Result Connection Reason). going_on r (λ c. going_on (none_of (option_tests how)) (λ chosen. going_on (resolve p.definitions p.given.name name qmgr) (λ route. going_on (none_of (open_tests c how route p)) (λ fits. open_step c how route))))) d.1)))
    (λ answer c ds. refl) (λ reason. refl) can

pub close_happens : {E : ledgers.Stopped → Noted → Plain → Type 0} (m : ℕ) (given : Ident → Bool) (n : Node) (l : Ledger) (e : Entry) (actor : Actor) (choice : Choice) (hc : Hconn) (ho : Hobj) → IsAt E m given n l → CanCome (ended_deed replies.Ended n.own (mqclose hc ho n.manager)) choice n
    → Deeded E m given n l e actor (calls.Mqclose hc ho) choice (ended_deed replies.Ended n.own (mqclose hc ho n.manager))
close_happens {E} m given n l e actor choice hc ho a can =
    let p : Plain = n.manager in
    ended_happens m given n l e actor (calls.Mqclose hc ho) choice replies.Ended (λ reply ds k. close_if m hc ho (replies.Ended reply) k) (mqclose hc ho p) a
    (fits_by m given p l (λ reply ds k. close_if m hc ho (replies.Ended reply) k) (calls.Mqclose hc ho) (mqclose hc ho p) a.state
    (λ h. (events.closes m given p l hc ho a.fresh a.told, halting.step_stops m given p l (mqclose hc ho p) a.fresh a.told (shorts.close_short hc ho p), joined (mqclose hc ho p) p h (mqclose_keeps hc ho p h.facts) (close_stocked hc ho p h.stocked)))
    (λ h k. close_noted m hc ho p)
    (down_refused hc p (close_up ho)))
    (λ answer c ds. refl) (λ reason. refl) can

put_none : (sync : Bool) (m : ℕ) (hc : Hconn) (ho : Hobj) (o : Option Connection) (md : Md) (body : List ℕ) (l : Ledger) → ledgers.put sync m hc ho o None md body l ≡ l
put_none sync m hc ho None md body l = refl
put_none sync m hc ho (Some c) md body l = refl

put1_none : (sync : Bool) (m : ℕ) (hc : Hconn) (name qmgr : List ℕ) (o : Option Connection) (md : Md) (body : List ℕ) (l : Ledger) → ledgers.put1 sync m hc name qmgr o None md body l ≡ l
put1_none sync m hc name qmgr None md body l = refl
put1_none sync m hc name qmgr (Some c) md body l = refl

pub put_happens : {E : ledgers.Stopped → Noted → Plain → Type 0} (m : ℕ) (given : Ident → Bool) (n : Node) (l : Ledger) (e : Entry) (actor : Actor) (choice : Choice) (hc : Hconn) (ho : Hobj) (md : Md) (body : List ℕ) (sync : Bool) → IsAt E m given n l → CanCome (mqi_deed replies.Put n.own (mqput hc ho md body sync n.manager)) choice n
    → Deeded E m given n l e actor (calls.Mqput hc ho md body sync) choice (mqi_deed replies.Put n.own (mqput hc ho md body sync n.manager))
put_happens {E} m given n l e actor choice hc ho md body sync a can =
    let p : Plain = n.manager in
    mqi_happens m given n l e actor (calls.Mqput hc ho md body sync) choice replies.Put (λ reply ds k. ledgers.put sync m hc ho (ledgers.connection_of m hc k) (sent_ident (replies.Put reply) ds) md body k) (mqput hc ho md body sync p) a
    (fits_by m given p l (λ reply ds k. ledgers.put sync m hc ho (ledgers.connection_of m hc k) (sent_ident (replies.Put reply) ds) md body k) (calls.Mqput hc ho md body sync) (mqput hc ho md body sync p) a.state
    (λ h. (events.puts m given p l hc ho md body sync a.fresh a.told a.timed, halting.step_stops m given p l (mqput hc ho md body sync p) a.fresh a.told (shorts.put_short hc ho md body sync p), joined (mqput hc ho md body sync p) p h (mqput_keeps hc ho md body sync p h.facts) (put_stocked hc ho md body sync p h.stocked)))
    (λ h k. puts_noted m p hc ho md body sync h k)
    (down_refused hc p (put_up ho md body sync p)))
    (λ answer c ds. refl) (λ reason. put_none sync m hc ho (ledgers.connection_of m hc l) md body l) can

pub put1_happens : {E : ledgers.Stopped → Noted → Plain → Type 0} (m : ℕ) (given : Ident → Bool) (n : Node) (l : Ledger) (e : Entry) (actor : Actor) (choice : Choice) (hc : Hconn) (name qmgr : List ℕ) (md : Md) (body : List ℕ) (sync : Bool) → IsAt E m given n l → CanCome (mqi_deed replies.Put n.own (mqput1 hc name qmgr md body sync n.manager)) choice n
    → Deeded E m given n l e actor (calls.Mqput1 hc name qmgr md body sync) choice (mqi_deed replies.Put n.own (mqput1 hc name qmgr md body sync n.manager))
put1_happens {E} m given n l e actor choice hc name qmgr md body sync a can =
    let p : Plain = n.manager in
    mqi_happens m given n l e actor (calls.Mqput1 hc name qmgr md body sync) choice replies.Put (λ reply ds k. ledgers.put1 sync m hc name qmgr (ledgers.connection_of m hc k) (sent_ident (replies.Put reply) ds) md body k) (mqput1 hc name qmgr md body sync p) a
    (fits_by m given p l (λ reply ds k. ledgers.put1 sync m hc name qmgr (ledgers.connection_of m hc k) (sent_ident (replies.Put reply) ds) md body k) (calls.Mqput1 hc name qmgr md body sync) (mqput1 hc name qmgr md body sync p) a.state
    (λ h. (events.puts_once m given p l hc name qmgr md body sync a.fresh a.told a.timed, halting.step_stops m given p l (mqput1 hc name qmgr md body sync p) a.fresh a.told (shorts.put1_short hc name qmgr md body sync p), joined (mqput1 hc name qmgr md body sync p) p h (mqput1_keeps hc name qmgr md body sync p h.facts) (put1_stocked hc name qmgr md body sync p h.stocked)))
    (λ h k. puts_once_noted m p hc name qmgr md body sync h k)
    (down_refused hc p (put1_resolved (resolve p.definitions p.given.name name qmgr) md body sync p)))
    (λ answer c ds. refl) (λ reason. put1_none sync m hc name qmgr (ledgers.connection_of m hc l) md body l) can

pub commit_happens : {E : ledgers.Stopped → Noted → Plain → Type 0} (m : ℕ) (given : Ident → Bool) (n : Node) (l : Ledger) (e : Entry) (actor : Actor) (choice : Choice) (hc : Hconn) → IsAt E m given n l → CanCome (ended_deed replies.Ended n.own (mqcmit hc n.manager)) choice n
    → Deeded E m given n l e actor (calls.Mqcmit hc) choice (ended_deed replies.Ended n.own (mqcmit hc n.manager))
commit_happens {E} m given n l e actor choice hc a can =
    let p : Plain = n.manager in
    ended_happens m given n l e actor (calls.Mqcmit hc) choice replies.Ended (λ reply ds k. ledgers.when (is_ended (replies.Ended reply)) (ledgers.commit m hc) k) (mqcmit hc p) a
    (fits_by m given p l (λ reply ds k. ledgers.when (is_ended (replies.Ended reply)) (ledgers.commit m hc) k) (calls.Mqcmit hc) (mqcmit hc p) a.state
    (λ h. (events.commits m given p l hc a.fresh a.told (listed hc.number p h), halting.step_stops m given p l (mqcmit hc p) a.fresh a.told (shorts.commit_short hc p), joined (mqcmit hc p) p h (mqcmit_keeps hc p h.facts) (cmit_stocked hc p h.stocked)))
    (λ h k. commits_noted m p hc h k)
    (down_refused hc p (λ c. Do (answers.Ok tt) (commit_part [] c ∷ []))))
    (λ answer c ds. refl) (λ reason. refl) can

pub back_happens : {E : ledgers.Stopped → Noted → Plain → Type 0} (m : ℕ) (given : Ident → Bool) (n : Node) (l : Ledger) (e : Entry) (actor : Actor) (choice : Choice) (hc : Hconn) → IsAt E m given n l → CanCome (ended_deed replies.Ended n.own (mqback hc n.manager)) choice n
    → Deeded E m given n l e actor (calls.Mqback hc) choice (ended_deed replies.Ended n.own (mqback hc n.manager))
back_happens {E} m given n l e actor choice hc a can =
    let p : Plain = n.manager in
    ended_happens m given n l e actor (calls.Mqback hc) choice replies.Ended (λ reply ds k. ledgers.when (is_ended (replies.Ended reply)) (ledgers.back_out m hc) k) (mqback hc p) a
    (fits_by m given p l (λ reply ds k. ledgers.when (is_ended (replies.Ended reply)) (ledgers.back_out m hc) k) (calls.Mqback hc) (mqback hc p) a.state
    (λ h. (events.backs_out m given p l hc a.fresh a.told (listed hc.number p h), halting.step_stops m given p l (mqback hc p) a.fresh a.told (shorts.back_short hc p), joined (mqback hc p) p h (mqback_keeps hc p h.facts) (back_stocked hc p h.facts h.stocked)))
    (λ h k. back_noted m hc p)
    (down_refused hc p (λ c. Do (answers.Ok tt) (backout_part c ∷ []))))
    (λ answer c ds. refl) (λ reason. refl) can

pub disc_happens : {E : ledgers.Stopped → Noted → Plain → Type 0} (m : ℕ) (given : Ident → Bool) (n : Node) (l : Ledger) (e : Entry) (actor : Actor) (choice : Choice) (hc : Hconn) → IsAt E m given n l → CanCome (ended_deed replies.Ended n.own (mqdisc hc n.manager)) choice n
    → Deeded E m given n l e actor (calls.Mqdisc hc) choice (ended_deed replies.Ended n.own (mqdisc hc n.manager))
disc_happens {E} m given n l e actor choice hc a can =
    let p : Plain = n.manager in
    ended_happens m given n l e actor (calls.Mqdisc hc) choice replies.Ended (λ reply ds k. ledgers.when (is_ended (replies.Ended reply)) (λ x. ledgers.disconnect m hc (ledgers.commit m hc x)) k) (mqdisc hc p) a
    (fits_by m given p l (λ reply ds k. ledgers.when (is_ended (replies.Ended reply)) (λ x. ledgers.disconnect m hc (ledgers.commit m hc x)) k) (calls.Mqdisc hc) (mqdisc hc p) a.state
    (λ h. (leaving.disconnects m given p l hc a.fresh a.told (listed hc.number p h), halting.step_stops m given p l (mqdisc hc p) a.fresh a.told (shorts.disc_short hc p), joined (mqdisc hc p) p h (mqdisc_keeps hc p h.facts) (disc_stocked hc p h.stocked)))
    (λ h k. disconnects_noted m p hc h k)
    (down_refused hc p (λ c. Do (answers.Ok tt) (commit_part (Disconnect c.number ∷ []) c ∷ []))))
    (λ answer c ds. refl) (λ reason. refl) can

-- MQGET: one that may wait is no event
get_step : {E : ledgers.Stopped → Noted → Plain → Type 0} (m : ℕ) (given : Ident → Bool) (n : Node) (l : Ledger) (e : Entry) (actor : Actor) (choice : Choice) (hc : Hconn) (ho : Hobj) (get : Get) (until : Option ℕ) (step : Step Reason GetAnswer) → IsAt E m given n l → Fits m given n.manager l (post_get m hc get) (calls.Mqget hc ho get until) step → IsDeed (get_deed n.own step) (chances.Call choice) n
    → Became E m given n l (remembering actor (calls.Mqget hc ho get until) (done_or (get_deed n.own step) choice n)).next
    (posted m (entry_of e (calls.Mqget hc ho get until) (chances.Call choice) (done_or (get_deed n.own step) choice n).reply (done_or (get_deed n.own step) choice n).delta (done_or (get_deed n.own step) choice n).received) (done_or (get_deed n.own step) choice n).reply l)
get_step {E} m given n l e actor choice hc ho get until (Refuse reason) a fit can = quiet_happens m given n l e actor (calls.Mqget hc ho get until) choice (replies.Got (answers.Failed reason)) a (λ c. refl) can
get_step {E} m given n l e actor choice hc ho get until (Do get_answers.NotYet parts) a fit can = absurd can
get_step {E} m given n l e actor choice hc ho get until (Do (get_answers.Done answer) parts) a fit can =
    step_happens Reason m given n l e actor (calls.Mqget hc ho get until) choice (Some (replies.Got (answers.Failed reasons.StorageNotAvailable))) replies.Got (λ reply ds k. post_get m hc get (get_answers.Done reply) ds k) answer parts a fit.0 fit.1 fit.2 fit.3 fit.4 fit.5 (λ ds. refl)
    (λ r z. ap (λ (o : Option Reply). posted m (entry_of e (calls.Mqget hc ho get until) (chances.Call NoMemory) (reply_or r o) [] []) (reply_or r o) l) (sym z)) can

pub get_happens : {E : ledgers.Stopped → Noted → Plain → Type 0} (m : ℕ) (given : Ident → Bool) (n : Node) (l : Ledger) (e : Entry) (actor : Actor) (choice : Choice) (hc : Hconn) (ho : Hobj) (get : Get) (until : Option ℕ) → IsAt E m given n l → IsDeed (get_deed n.own (mqget hc ho get until n.manager)) (chances.Call choice) n
    → Became E m given n l (remembering actor (calls.Mqget hc ho get until) (done_or (get_deed n.own (mqget hc ho get until n.manager)) choice n)).next
    (posted m (entry_of e (calls.Mqget hc ho get until) (chances.Call choice) (done_or (get_deed n.own (mqget hc ho get until n.manager)) choice n).reply (done_or (get_deed n.own (mqget hc ho get until n.manager)) choice n).delta (done_or (get_deed n.own (mqget hc ho get until n.manager)) choice n).received)
    (done_or (get_deed n.own (mqget hc ho get until n.manager)) choice n).reply l)
get_happens {E} m given n l e actor choice hc ho get until a can =
    let p : Plain = n.manager in
    get_step m given n l e actor choice hc ho get until (mqget hc ho get until p) a
    (fits_by m given p l (post_get m hc get) (calls.Mqget hc ho get until) (mqget hc ho get until p) a.state
    (λ h. (getting.gets m given p l hc ho get until a.fresh a.told (λ d. h.facts.apart.once d), halting.gets_stop m given p l hc ho get until a.fresh a.told (λ d. h.facts.apart.once d), joined (mqget hc ho get until p) p h (mqget_keeps hc ho get until p h.facts) (get_stocked hc ho get until p h.stocked)))
    (λ h k. gets_noted m p hc ho get until h k)
    (down_refused hc p (get_up ho get until p))) can
