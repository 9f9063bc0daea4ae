-- MQI calls but MQOPEN and MQGET, trigger turns, moves and discards, and what follows a change of objects: all their changes are common.
use Rattle.std.proofs.Common.{ℕ, ◌≡◌, Bool, true, false, List, [], ◌∷◌, ◌++◌, length, refl, ap}
use Rattle.std.specs.Prelude.{Option, Some, None, Result, Ok, Err, ◌&&◌, flat_map, filter}
use Rattle.mq_codes.specs.declared.reason.Reason.{Reason}
use Rattle.mq_message.specs.declared.message.Ident.{Ident}
use Rattle.mq_message.specs.declared.message.Dest.{Dest}
use Rattle.mq_message.specs.declared.message.Md.{Md}
use Rattle.mq_message.specs.declared.message.Message.{Message}
use Rattle.mq_queue.specs.declared.row.Row.{Row}
use Rattle.mq_queue.specs.Rows.{has_ident}
use Rattle.mq_objects.specs.declared.object.LocalQueue.{LocalQueue}
use Rattle.mq_objects.specs.declared.object.Process.{Process}
use Rattle.mq_objects.specs.Names.{local_of, locals_of, process_of, name_of}
use Rattle.mq_resolve.specs.declared.route.Route.{Route}
use Rattle.mq_resolve.specs.Resolved.{resolve}
use Rattle.mq_codes.specs.declared.reason.Reason.TheVariants as reasons
use Rattle.mq_calls.specs.declared.answers.Answer.TheVariants as answers
use Rattle.mq_calls.specs.declared.answers.Hconn.{Hconn}
use Rattle.mq_calls.specs.declared.answers.Hobj.{Hobj}
use Rattle.mq_calls.specs.declared.answers.Appl.{Appl}
use Rattle.mq_calls.specs.declared.deltas.Why.{Why}
use Rattle.mq_calls.specs.declared.state.Item.{Item}
use Rattle.mq_calls.specs.declared.state.Item.TheVariants.{Put, Take}
use Rattle.mq_calls.specs.declared.state.Connection.{Connection}
use Rattle.mq_calls.specs.State.{Plain, Change}
use Rattle.mq_calls.specs.State.Change.{Disconnect, EndUnit, Connect}
use Rattle.mq_calls.specs.Reads.{handle_at, stored}
use Rattle.mq_calls.specs.Steps.{silent, when}
use Rattle.mq_calls.specs.Steps.Step.{Do}
use Rattle.mq_spec_manager.specs.Handles.{connected, mqconn, mqclose, close_up, close_handle, new_connection, new_hconn, conn_tests, is_unfit}
use Rattle.mq_spec_manager.specs.Put.{mqput, mqput1, put_up, put_handle, put_route, put_part, put1_resolved, new_message, put_tests, put_step, queue_at, output_tests, handle_route, output_only}
use Rattle.mq_spec_manager.specs.Get.{removal_parts}
use Rattle.mq_calls.specs.declared.deltas.Why.TheVariants as whys
use Rattle.mq_spec_manager.specs.Units.{mqcmit, mqback, mqdisc, commit_part, commit_changes, taken_item, freed_item, placed_item, backout_part}
use Rattle.mq_spec_manager.specs.Triggers.{trigger_at, serve, serve_by, serve_into, put_trigger, takes_it, first_due}
use Rattle.mq_spec_manager.specs.Agents.{move_found, move_resolved, landing, route_tests, move_full, move_part, discard}
use Rattle.mq_objects.specs.declared.object.Definitions.{Definitions}
use Rattle.mq_objects.specs.declared.object.Object.{Object}
use Rattle.mq_objects.specs.declared.object.Object.TheVariants as objects
use Rattle.mq_objects.specs.declared.command.Subject.{Subject}
use Rattle.mq_objects.specs.declared.command.Subject.TheVariants as subjects
use Rattle.mq_objects.specs.declared.change.ObjectChange.{ObjectChange}
use Rattle.mq_objects.specs.declared.change.ObjectChange.TheVariants as changes
use Rattle.mq_resolve.specs.declared.route.PathStep.{PathStep}
use Rattle.mq_spec_manager.specs.from_sc_apply.{ThePlanned as Planned}
use Rattle.mq_resolve.specs.declared.route.PathStep.TheVariants as steps
use Rattle.mq_spec_manager.specs.Commands.{follows, renewed, renewed_if, stale_if, switched_if, dropped}
use Rattle.mq_law_seized.specs.Each.{IsCommon, all_common, is_common, parts_common}
use Rattle.mq_law_seized.proofs.Each.{all_behind}
use Rattle.mq_law_manager.proofs.ShortSteps.{live_all, open_all, tested_all}

-- handles
pub mqconn_common : (qmgr : List ℕ) (appl : Appl) (p : Plain) → IsCommon (mqconn qmgr appl p)
mqconn_common qmgr appl p = tested_all IsCommon (λ r. refl) (conn_tests qmgr p) (Do (answers.Ok (new_hconn p)) (silent (Connect (new_connection appl p) ∷ []) ∷ [])) refl

pub mqclose_common : (hc : Hconn) (ho : Hobj) (p : Plain) → IsCommon (mqclose hc ho p)
mqclose_common hc ho p = live_all IsCommon (λ r. refl) (connected hc p) (close_up ho) (λ c. open_all IsCommon (λ r. refl) (handle_at ho.number c.handles) (close_handle c) (λ h. refl))

-- puts
put_part_common : (sync : Bool) (c : Connection) (queue : List ℕ) (m : Message) → all_common (put_part sync c queue m).changes ≡ true
put_part_common true c queue m = refl
put_part_common false c queue m = refl

put_route_common : (c : Connection) (route : Route) (md : Md) (body : List ℕ) (sync : Bool) (p : Plain) → IsCommon (put_route c route md body sync p)
put_route_common c route md body sync p = tested_all IsCommon (λ r. refl) (put_tests c route md body sync (new_message c route md body p) p) (put_step c route md sync (new_message c route md body p)) (ap (λ (b : Bool). b && true) (put_part_common sync c (queue_at route.end) (new_message c route md body p)))

pub mqput_common : (hc : Hconn) (ho : Hobj) (md : Md) (body : List ℕ) (sync : Bool) (p : Plain) → IsCommon (mqput hc ho md body sync p)
mqput_common hc ho md body sync p = live_all IsCommon (λ r. refl) (connected hc p) (put_up ho md body sync p) (λ c. open_all IsCommon (λ r. refl) (handle_at ho.number c.handles) (put_handle md body sync p c) (λ h. tested_all IsCommon (λ r. refl) (output_tests h) (put_route c (handle_route h) md body sync p) (put_route_common c (handle_route h) md body sync p)))

put1_common : (r : Result Route Reason) (md : Md) (body : List ℕ) (sync : Bool) (p : Plain) (c : Connection) → IsCommon (put1_resolved r md body sync p c)
put1_common (Err reason) md body sync p c = refl
put1_common (Ok route) md body sync p c = tested_all IsCommon (λ r. refl) (when (is_unfit output_only route.end p) reasons.OptionNotValidForType ∷ []) (put_route c route md body sync p) (put_route_common c route md body sync p)

pub mqput1_common : (hc : Hconn) (name qmgr : List ℕ) (md : Md) (body : List ℕ) (sync : Bool) (p : Plain) → IsCommon (mqput1 hc name qmgr md body sync p)
mqput1_common hc name qmgr md body sync p = live_all IsCommon (λ r. refl) (connected hc p) (put1_resolved (resolve p.definitions p.given.name name qmgr) md body sync p) (put1_common (resolve p.definitions p.given.name name qmgr) md body sync p)

-- gets
pub removal_common : (why : Why) (queue : List ℕ) (rows : List Row) → parts_common (removal_parts why queue rows) ≡ true
removal_common why queue [] = refl
removal_common why queue (row ∷ rows) = refl

-- units
placed_items_common : (items : List Item) → all_common (flat_map placed_item items) ≡ true
placed_items_common [] = refl
placed_items_common (Put queue m ∷ items) = placed_items_common items
placed_items_common (Take queue ident persistent ∷ items) = placed_items_common items

taken_items_common : (items : List Item) → all_common (flat_map taken_item items) ≡ true
taken_items_common [] = refl
taken_items_common (Put queue m ∷ items) = taken_items_common items
taken_items_common (Take queue ident persistent ∷ items) = taken_items_common items

freed_items_common : (items : List Item) → all_common (flat_map freed_item items) ≡ true
freed_items_common [] = refl
freed_items_common (Put queue m ∷ items) = freed_items_common items
freed_items_common (Take queue ident persistent ∷ items) = freed_items_common items

commit_common : (more : List Change) (c : Connection) → all_common more ≡ true → all_common (commit_part more c).changes ≡ true
commit_common more c q =
    let items : all_common (flat_map taken_item c.unit ++ flat_map placed_item c.unit) ≡ true = all_behind is_common (flat_map taken_item c.unit) (flat_map placed_item c.unit) (taken_items_common c.unit) (placed_items_common c.unit) in
    all_behind is_common (commit_changes c) more (all_behind is_common (flat_map taken_item c.unit ++ flat_map placed_item c.unit) (EndUnit c.number ∷ []) items refl) q

pub mqcmit_common : (hc : Hconn) (p : Plain) → IsCommon (mqcmit hc p)
mqcmit_common hc p = live_all IsCommon (λ r. refl) (connected hc p) (λ c. Do (answers.Ok tt) (commit_part [] c ∷ [])) (λ c. ap (λ (b : Bool). b && true) (commit_common [] c refl))

pub mqback_common : (hc : Hconn) (p : Plain) → IsCommon (mqback hc p)
mqback_common hc p = live_all IsCommon (λ r. refl) (connected hc p) (λ c. Do (answers.Ok tt) (backout_part c ∷ []))
    (λ c. ap (λ (b : Bool). b && true) (all_behind is_common (flat_map freed_item c.unit) (EndUnit c.number ∷ []) (freed_items_common c.unit) refl))

pub mqdisc_common : (hc : Hconn) (p : Plain) → IsCommon (mqdisc hc p)
mqdisc_common hc p = live_all IsCommon (λ r. refl) (connected hc p) (λ c. Do (answers.Ok tt) (commit_part (Disconnect c.number ∷ []) c ∷ [])) (λ c. ap (λ (b : Bool). b && true) (commit_common (Disconnect c.number ∷ []) c refl))

-- triggers
put_trigger_common : (o : Option Reason) (q : LocalQueue) (process : Process) (i : LocalQueue) (p : Plain) → all_common (put_trigger o q process i p).changes ≡ true
put_trigger_common None q process i p = refl
put_trigger_common (Some reason) q process i p = refl

serve_into_common : (b : Bool) (q : LocalQueue) (process : Process) (i : LocalQueue) (p : Plain) → all_common (serve_into b q process i p).changes ≡ true
serve_into_common true q process i p = refl
serve_into_common false q process i p = put_trigger_common (takes_it i p) q process i p

serve_by_common : (q : LocalQueue) (o : Option Process) (i : Option LocalQueue) (p : Plain) → all_common (serve_by q o i p).changes ≡ true
serve_by_common q None i p = refl
serve_by_common q (Some process) None p = refl
serve_by_common q (Some process) (Some i) p = serve_into_common _ q process i p

serve_common : (o : Option LocalQueue) (p : Plain) → IsCommon (serve o p)
serve_common None p = refl
serve_common (Some q) p = ap (λ (b : Bool). b && true) (serve_by_common q (process_of q.process p.definitions) (local_of q.initiation_queue p.definitions) p)

pub trigger_common : (b : Bool) (p : Plain) → IsCommon (trigger_at b p)
trigger_common false p = refl
trigger_common true p = serve_common (first_due (locals_of p.definitions) p) p

-- the handler's calls
move_resolved_common : (from : List ℕ) (to : Dest) (bare : Bool) (r : Result Route Reason) (m : Message) (p : Plain) → IsCommon (move_resolved from to bare r m p)
move_resolved_common from to bare (Err reason) m p = refl
move_resolved_common from to bare (Ok route) m p =
    tested_all IsCommon (λ r. refl) (route_tests route (length (landing route m).message.body) p ++ when (move_full from (landing route m) p) reasons.ResourceProblem ∷ []) (Do tt (move_part from to bare (landing route m) ∷ [])) refl

pub move_common : (from : List ℕ) (to : Dest) (bare : Bool) (o : Option Message) (p : Plain) → IsCommon (move_found from to bare o p)
move_common from to bare None p = refl
move_common from to bare (Some m) p = move_resolved_common from to bare (resolve p.definitions p.given.name to.queue to.qmgr) _ p

pub discard_common : (queue : List ℕ) (ident : Ident) (p : Plain) → IsCommon (discard queue ident p)
discard_common queue ident p = removal_common whys.Discarded queue (filter (has_ident ident) (stored queue p).rows)

-- what follows a change of objects
stale_common : (b : Bool) (step : PathStep) → all_common (stale_if b step) ≡ true
stale_common true step = refl
stale_common false step = refl

switched_common : (b : Bool) (name : List ℕ) → all_common (switched_if b name) ≡ true
switched_common true name = refl
switched_common false name = refl

renewed_if_common : (o : Option LocalQueue) (name : List ℕ) → all_common (renewed_if o name) ≡ true
renewed_if_common None name = refl
renewed_if_common (Some q) name = refl

renewed_common : (o : Object) (d : Definitions) → all_common (renewed o d) ≡ true
renewed_common (objects.Local q) d = renewed_if_common (local_of q.name d) q.name
renewed_common o d = refl

dropped_common : (s : Subject) → all_common (dropped s) ≡ true
dropped_common (subjects.Local name) = refl
dropped_common s = refl

pub follows_common : (change : ObjectChange) (planned : Planned) (d : Definitions) → all_common (follows change planned d) ≡ true
follows_common (changes.Set new) planned d = all_behind is_common (renewed new d ++ stale_if planned.reroutes (steps.Queue (name_of new))) (switched_if planned.switches_on (name_of new))
    (all_behind is_common (renewed new d) (stale_if planned.reroutes (steps.Queue (name_of new))) (renewed_common new d) (stale_common planned.reroutes (steps.Queue (name_of new))))
    (switched_common planned.switches_on (name_of new))
follows_common (changes.SetManager m) planned d = stale_common planned.reroutes steps.DefXmitq
follows_common (changes.Delete subject) planned d = dropped_common subject
