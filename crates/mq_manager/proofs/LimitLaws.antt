-- Calls of the MQI leave the definitions as they are.
use Rattle.std.proofs.Common.{◌≡◌, ◌≤◌, ℕ, Bool, true, false, List, [], ◌∷◌, ◌++◌, refl, sym, subst, ◌∙◌}
use Rattle.std.specs.Prelude.{Option, Some, None, Result, Ok, Err, map}
use Rattle.std.specs.List.{flat_map}
use Rattle.mq_calls.specs.Words.{LocalQueue, Process, Nonpersistent, is_up, is_transmission, locals_of, process_of, Reason, Md, Message, Route, Plain, Part, Change, Definitions, apply, apply_all, logged, do_part, condition, local_of, when, handle_at}
use Rattle.mq_calls.specs.declared.state.Batch.{Batch}
use Rattle.mq_calls.specs.declared.answers.Hconn.{Hconn}
use Rattle.mq_calls.specs.declared.answers.Hobj.{Hobj}
use Rattle.mq_calls.specs.declared.answers.Appl.{Appl}
use Rattle.mq_calls.specs.declared.answers.Open.{Open}
use Rattle.mq_calls.specs.declared.state.Connection.{Connection}
use Rattle.mq_calls.specs.declared.state.Item.{Item}
use Rattle.mq_calls.specs.State.Change.{Try, ChangeObjects, SetBound, EndUnit, Disconnect, Leave, ForgetAll}
use Rattle.mq_calls.specs.declared.state.Item.TheVariants.{Put, Take}
use Rattle.mq_codes.specs.declared.reason.Reason.TheVariants as reasons
use Rattle.mq_resolve.specs.Resolved.{resolve}
use Rattle.mq_spec_manager.specs.Handles.{connected, conn_tests, option_tests, open_tests, open_step, close_up, close_handle, is_unfit, mqconn, mqopen, mqclose}
use Rattle.mq_spec_manager.specs.Put.{output_only, queue_at, put_part, put_step, put_route, put_tests, put_up, put_handle, put1_resolved, handle_route, output_tests, new_message, mqput, mqput1}
use Rattle.mq_spec_manager.specs.Units.{taken_item, placed_item, freed_item, commit_changes, commit_part, backout_part, mqcmit, mqback, mqdisc}
use Rattle.mq_spec_manager.specs.Triggers.{put_trigger, takes_it, serve_into, serve_by, serve, first_due, trigger_at, trigger_turn}
use Rattle.mq_spec_manager.specs.Stops.{release_batch, stop_changes, at_rest}
use Rattle.mq_calls.specs.Steps.{none_of}
use Rattle.mq_law_manager.specs.Kept.{StepKeeps}
use Rattle.mq_law_manager.proofs.Shelves.{tried_definitions, logged_definitions}
use Rattle.mq_law_manager.proofs.Stocks.{live_on, open_on, tested_on, going}
use Rattle.mq_manager.specs.Facts.{HasLimit}

-- a change that is none of objects
unfoldable pub IsSteady : Change → Type 0
IsSteady (ChangeObjects change) = ⊥
IsSteady _ = Unit {0}

unfoldable pub AllSteady : List Change → Type 0
AllSteady [] = Unit {0}
AllSteady (c ∷ cs) = IsSteady c × AllSteady cs

steady_one : (c : Change) (p : Plain) → IsSteady c → (apply c p).definitions ≡ p.definitions
unfolding IsSteady
steady_one (Try name priority) p a = tried_definitions (condition (local_of name p.definitions) priority p) name p
steady_one (ChangeObjects change) p a = absurd a
steady_one (SetBound channel true) p a = refl
steady_one (SetBound channel false) p a = refl
steady_one c p a = refl

pub steady_all : (cs : List Change) (p : Plain) → AllSteady cs → (apply_all cs p).definitions ≡ p.definitions
unfolding AllSteady
steady_all [] p a = refl
steady_all (c ∷ cs) p a = steady_all cs (apply c p) a.1 ∙ steady_one c p a.0

pub steady_append : (as_ bs : List Change) → AllSteady as_ → AllSteady bs → AllSteady (as_ ++ bs)
unfolding AllSteady
steady_append [] bs a b = b
steady_append (x ∷ as_) bs a b = (a.0, steady_append as_ bs a.1 b)

pub part_limit : (part : Part) (p : Plain) → AllSteady part.changes → HasLimit p → HasLimit (do_part part p)
part_limit part p s h = subst (λ (d : Definitions). d.manager.max_message_length ≤ 4194304) (sym (steady_all part.changes (logged part.forced p) s ∙ logged_definitions part.forced p)) h

-- connections and handles
pub conn_limit : (qmgr : List ℕ) (appl : Appl) (p : Plain) → HasLimit p → StepKeeps HasLimit (mqconn qmgr appl p) p
conn_limit qmgr appl p h = tested_on HasLimit (conn_tests qmgr p) _ p (λ e. (h, tt))

pub open_limit : (hc : Hconn) (name qmgr : List ℕ) (how : Open) (p : Plain) → HasLimit p → StepKeeps HasLimit (mqopen hc name qmgr how p) p
open_limit hc name qmgr how p h = going HasLimit (connected hc p) _ p (λ c. going HasLimit (none_of (option_tests how)) _ p (λ u. going HasLimit (resolve p.definitions p.given.name name qmgr) _ p
    (λ route. going HasLimit (none_of (open_tests c how route p)) (λ fits. open_step c how route) p (λ w. (h, tt)))))

pub close_limit : (hc : Hconn) (ho : Hobj) (p : Plain) → HasLimit p → StepKeeps HasLimit (mqclose hc ho p) p
close_limit hc ho p h = live_on HasLimit (connected hc p) (close_up ho) p (λ c e. open_on HasLimit (handle_at ho.number c.handles) (close_handle c) p (λ x. (h, tt)))

-- puts
put_steady : (sync : Bool) (c : Connection) (queue : List ℕ) (m : Message) → AllSteady (put_part sync c queue m).changes
unfolding AllSteady IsSteady
put_steady true c queue m = (tt, (tt, tt))
put_steady false c queue m = (tt, (tt, (tt, tt)))

route_limit : (c : Connection) (route : Route) (md : Md) (body : List ℕ) (sync : Bool) (p : Plain) → HasLimit p → StepKeeps HasLimit (put_route c route md body sync p) p
route_limit c route md body sync p h =
    let m : Message = new_message c route md body p in
    tested_on HasLimit (put_tests c route md body sync m p) (put_step c route md sync m) p (λ e. (part_limit (put_part sync c (queue_at route.end) m) p (put_steady sync c (queue_at route.end) m) h, tt))

pub put_limit : (hc : Hconn) (ho : Hobj) (md : Md) (body : List ℕ) (sync : Bool) (p : Plain) → HasLimit p → StepKeeps HasLimit (mqput hc ho md body sync p) p
put_limit hc ho md body sync p h = live_on HasLimit (connected hc p) (put_up ho md body sync p) p (λ c e. open_on HasLimit (handle_at ho.number c.handles) (put_handle md body sync p c) p
    (λ x. tested_on HasLimit (output_tests x) (put_route c (handle_route x) md body sync p) p (λ z. route_limit c (handle_route x) md body sync p h)))

put1_on : (r : Result Route Reason) (md : Md) (body : List ℕ) (sync : Bool) (p : Plain) (c : Connection) → HasLimit p → StepKeeps HasLimit (put1_resolved r md body sync p c) p
put1_on (Err reason) md body sync p c h = tt
put1_on (Ok route) md body sync p c h = tested_on HasLimit (when (is_unfit output_only route.end p) reasons.OptionNotValidForType ∷ []) (put_route c route md body sync p) p (λ z. route_limit c route md body sync p h)

pub put1_limit : (hc : Hconn) (name qmgr : List ℕ) (md : Md) (body : List ℕ) (sync : Bool) (p : Plain) → HasLimit p → StepKeeps HasLimit (mqput1 hc name qmgr md body sync p) p
put1_limit hc name qmgr md body sync p h = live_on HasLimit (connected hc p) (put1_resolved (resolve p.definitions p.given.name name qmgr) md body sync p) p
    (λ c e. put1_on (resolve p.definitions p.given.name name qmgr) md body sync p c h)

-- ends of units
taken_steady : (items : List Item) → AllSteady (flat_map taken_item items)
unfolding AllSteady IsSteady
taken_steady [] = tt
taken_steady (Put queue m ∷ items) = taken_steady items
taken_steady (Take queue ident persistent ∷ items) = (tt, taken_steady items)

placed_steady : (items : List Item) → AllSteady (flat_map placed_item items)
unfolding AllSteady IsSteady
placed_steady [] = tt
placed_steady (Put queue m ∷ items) = (tt, (tt, placed_steady items))
placed_steady (Take queue ident persistent ∷ items) = placed_steady items

freed_steady : (items : List Item) → AllSteady (flat_map freed_item items)
unfolding AllSteady IsSteady
freed_steady [] = tt
freed_steady (Put queue m ∷ items) = freed_steady items
freed_steady (Take queue ident persistent ∷ items) = (tt, freed_steady items)

commit_steady : (c : Connection) (more : List Change) → AllSteady more → AllSteady (commit_part more c).changes
unfolding AllSteady IsSteady
commit_steady c more s =
    steady_append (commit_changes c) more (steady_append (flat_map taken_item c.unit ++ flat_map placed_item c.unit) (EndUnit c.number ∷ []) (steady_append (flat_map taken_item c.unit) (flat_map placed_item c.unit) (taken_steady c.unit) (placed_steady c.unit)) (tt, tt)) s

backout_steady : (c : Connection) → AllSteady (backout_part c).changes
unfolding AllSteady IsSteady
backout_steady c = steady_append (flat_map freed_item c.unit) (EndUnit c.number ∷ []) (freed_steady c.unit) (tt, tt)

pub none_steady : AllSteady []
unfolding AllSteady
none_steady = tt

leave_steady : (n : ℕ) → AllSteady (Disconnect n ∷ [])
unfolding AllSteady IsSteady
leave_steady n = (tt, tt)

pub cmit_limit : (hc : Hconn) (p : Plain) → HasLimit p → StepKeeps HasLimit (mqcmit hc p) p
cmit_limit hc p h = live_on HasLimit (connected hc p) _ p (λ c e. (part_limit (commit_part [] c) p (commit_steady c [] none_steady) h, tt))

pub back_limit : (hc : Hconn) (p : Plain) → HasLimit p → StepKeeps HasLimit (mqback hc p) p
back_limit hc p h = live_on HasLimit (connected hc p) _ p (λ c e. (part_limit (backout_part c) p (backout_steady c) h, tt))

pub disc_limit : (hc : Hconn) (p : Plain) → HasLimit p → StepKeeps HasLimit (mqdisc hc p) p
disc_limit hc p h = live_on HasLimit (connected hc p) _ p (λ c e. (part_limit (commit_part (Disconnect c.number ∷ []) c) p (commit_steady c (Disconnect c.number ∷ []) (leave_steady c.number)) h, tt))

-- a trigger's turn
turn_steady : (o : Option Reason) (q : LocalQueue) (process : Process) (i : LocalQueue) (p : Plain) → AllSteady (put_trigger o q process i p).changes
unfolding AllSteady IsSteady
turn_steady (Some reason) q process i p = (tt, tt)
turn_steady None q process i p = (tt, (tt, (tt, tt)))

into_steady : (b : Bool) (q : LocalQueue) (process : Process) (i : LocalQueue) (p : Plain) → AllSteady (serve_into b q process i p).changes
unfolding AllSteady IsSteady
into_steady true q process i p = (tt, tt)
into_steady false q process i p = turn_steady (takes_it i p) q process i p

served_steady : (q : LocalQueue) (process : Option Process) (i : Option LocalQueue) (p : Plain) → AllSteady (serve_by q process i p).changes
unfolding AllSteady IsSteady
served_steady q None i p = (tt, tt)
served_steady q (Some process) None p = (tt, tt)
served_steady q (Some process) (Some i) p = into_steady (is_transmission i.usage) q process i p

serve_limit : (o : Option LocalQueue) (p : Plain) → HasLimit p → StepKeeps HasLimit (serve o p) p
serve_limit None p h = tt
serve_limit (Some q) p h = let part : Part = serve_by q (process_of q.process p.definitions) (local_of q.initiation_queue p.definitions) p in (part_limit part p (served_steady q (process_of q.process p.definitions) (local_of q.initiation_queue p.definitions) p) h, tt)

pub turn_limit : (p : Plain) → HasLimit p → StepKeeps HasLimit (trigger_turn p) p
turn_limit p h = by (is_up p.running)
  where
    by : (b : Bool) → StepKeeps HasLimit (trigger_at b p) p
    by true = serve_limit (first_due (locals_of p.definitions) p) p h
    by false = tt

-- a stop
batches_steady : (bs : List Batch) (more : List Change) → AllSteady more → AllSteady (map release_batch bs ++ more)
unfolding AllSteady IsSteady
batches_steady [] more s = s
batches_steady (b ∷ bs) more s = (tt, batches_steady bs more s)

rest_steady : (p : Plain) → AllSteady (stop_changes p)
unfolding AllSteady IsSteady
rest_steady p = (tt, batches_steady p.channels.batches (Leave Nonpersistent ∷ ForgetAll ∷ []) (tt, (tt, tt)))

pub rest_same : (p : Plain) → (at_rest p).definitions ≡ p.definitions
rest_same p = steady_all (stop_changes p) p (rest_steady p)

pub stop_limit : (p : Plain) → HasLimit p → HasLimit (at_rest p)
stop_limit p h = subst (λ (d : Definitions). d.manager.max_message_length ≤ 4194304) (sym (rest_same p)) h
