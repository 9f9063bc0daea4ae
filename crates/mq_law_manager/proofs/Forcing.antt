-- What each call of a manager forces: what holds of nothing, of each unit and of each moved message holds of it. A channel's record has it where the
-- channel's call is asked for it; what a command forces stands apart.
use Rattle.std.proofs.Common.{ℕ, Bool, true, false, List, [], ◌∷◌, ◌++◌, length}
use Rattle.std.specs.Prelude.{Option, Some, None, Result, Ok, Err, not, ◌||◌, if◌then◌else◌, filter}
use Rattle.mq_codes.specs.declared.reason.Reason.{Reason}
use Rattle.mq_codes.specs.declared.reason.Reason.TheVariants as reasons
use Rattle.mq_message.specs.declared.message.Ident.{Ident}
use Rattle.mq_message.specs.declared.message.Md.{Md}
use Rattle.mq_message.specs.declared.message.Message.{Message}
use Rattle.mq_message.specs.declared.message.Dest.{Dest}
use Rattle.mq_queue.specs.declared.row.Row.{Row}
use Rattle.mq_queue.specs.Rows.{has_ident}
use Rattle.mq_objects.specs.declared.object.LocalQueue.{LocalQueue}
use Rattle.mq_objects.specs.declared.object.Process.{Process}
use Rattle.mq_objects.specs.Names.{local_of, locals_of, process_of, channel_of, is_transmission}
use Rattle.mq_calls.specs.from_resolve.{Route}
use Rattle.mq_calls.specs.from_resolve.Resolved.{resolve}
use Rattle.mq_sync.specs.declared.unit.Unit.{Unit as Luw}
use Rattle.mq_calls.specs.declared.answers.Hconn.{Hconn}
use Rattle.mq_calls.specs.declared.answers.Hobj.{Hobj}
use Rattle.mq_calls.specs.declared.answers.Open.{Open}
use Rattle.mq_calls.specs.declared.answers.Appl.{Appl}
use Rattle.mq_calls.specs.declared.answers.Get.{Get}
use Rattle.mq_calls.specs.declared.agents.SeizeFault.TheVariants as seize_faults
use Rattle.mq_calls.specs.declared.agents.PrepareFault.TheVariants as prepare_faults
use Rattle.mq_calls.specs.declared.deltas.Why.{Why}
use Rattle.mq_calls.specs.declared.deltas.Why.TheVariants as whys
use Rattle.mq_calls.specs.declared.records.LogRecord.{LogRecord}
use Rattle.mq_calls.specs.declared.records.LogRecord.TheVariants as records
use Rattle.mq_calls.specs.declared.records.Add.{Add}
use Rattle.mq_calls.specs.declared.records.Remove.{Remove}
use Rattle.mq_calls.specs.State.{Plain}
use Rattle.mq_calls.specs.declared.state.Connection.{Connection}
use Rattle.mq_calls.specs.declared.state.Handle.{Handle}
use Rattle.mq_calls.specs.declared.state.Batch.{Batch}
use Rattle.mq_calls.specs.State.Change.{SetCursor}
use Rattle.mq_calls.specs.Reads.{handle_at, is_persistent, is_up, is_open_for_input, is_full, has_held_by_other, stored, batch_of}
use Rattle.mq_calls.specs.Sizes.{need}
use Rattle.mq_calls.specs.Steps.{Step, Part, Test, when, tested, going_on, none_of, silent}
use Rattle.mq_spec_manager.specs.Handles.{connected, for_connection, for_handle, mqconn, mqopen, mqclose, close_up, close_handle, conn_tests, open_tests, open_step, option_tests, is_unfit, is_transmission_queue}
use Rattle.mq_spec_manager.specs.Put.{mqput, mqput1, put_up, put_handle, put_route, put_part, put1_resolved, new_message, put_tests, put_step, queue_at, output_tests, handle_route, output_only, unit_record}
use Rattle.mq_spec_manager.specs.Get.{removes_of as removed, mqget, get_up, get_handle, get_scanned, get_found, get_tests, room_tests, scanned, with_row, without_row, is_waiting, is_under, is_left, is_destructive, found_part, taking_part, removal_record, removal_parts, persistent_rows, expired_parts}
use Rattle.mq_spec_manager.specs.Units.{mqcmit, mqback, mqdisc, adds_of, removes_of, record_of}
use Rattle.mq_spec_manager.specs.Triggers.{trigger_turn, trigger_at, serve, serve_by, serve_into, put_trigger, takes_it, first_due}
use Rattle.mq_spec_manager.specs.Agents.{seize, leave, set_bound, channel_queue, expire, expired_rows, queue_of_sender, hold_batch, release_batch, release_of, prepare, prepare_of, prepared_record, discard, Landing, landing, route_tests, move_full, moved_record, moved_forced, bare_if, move_resolved, move_found, move_row, row_with, Landed, landed, received_record, receive_landed, receive}
use Rattle.mq_law_manager.specs.Forced.{AllForce, StepForces, FitsCalls}
use Rattle.mq_law_manager.proofs.Lists.{bool_case}
use Rattle.mq_law_manager.proofs.ShortSteps.{tested_all, going_all, live_all, open_all}

module _ {P : Option LogRecord → Type 0} (h : FitsCalls P) where
  -- ---- a call as it is read

  live_m : {T : Type 0} (r : Result Connection Reason) (f : Connection → Step Reason T) → ((c : Connection) → StepForces P (f c)) → StepForces P (for_connection r f)
  live_m r f k = live_all (StepForces P) (λ e. tt) r f k

  open_m : {T : Type 0} (o : Option Handle) (f : Handle → Step Reason T) → ((x : Handle) → StepForces P (f x)) → StepForces P (for_handle o f)
  open_m o f k = open_all (StepForces P) (λ e. tt) o f k

  tested_m : {F T : Type 0} (ts : List (Test F)) (s : Step F T) → StepForces P s → StepForces P (tested ts s)
  tested_m ts s k = tested_all (StepForces P) (λ e. tt) ts s k

  going_m : {A F T : Type 0} (r : Result A F) (rest : A → Step F T) → ((x : A) → StepForces P (rest x)) → StepForces P (going_on r rest)
  going_m r rest k = going_all (StepForces P) (λ e. tt) r rest k

  -- ---- what is forced

  unit_forced : (queue : List ℕ) (m : Message) → P (unit_record queue m)
  unit_forced queue m = bool_case (is_persistent m) (λ b. P (if b then Some (records.Unit (record { queue = queue; message = m } ∷ []) []) else None)) (λ e. h.units (record { queue = queue; message = m } ∷ []) []) (λ e. h.none)

  put_forced : (sync : Bool) (c : Connection) (queue : List ℕ) (m : Message) → P (put_part sync c queue m).forced
  put_forced true c queue m = h.none
  put_forced false c queue m = unit_forced queue m

  removal_forced : (queue : List ℕ) (rows : List Row) → P (removal_record queue rows)
  removal_forced queue [] = h.none
  removal_forced queue (row ∷ rows) = h.units [] (removed queue (row ∷ rows))

  removals_forced : (why : Why) (queue : List ℕ) (rows : List Row) → AllForce P (removal_parts why queue rows)
  removals_forced why queue [] = tt
  removals_forced why queue (row ∷ rows) = (removal_forced queue (persistent_rows (row ∷ rows)), tt)

  ended_forced : (adds : List Add) (removes : List Remove) → P (record_of adds removes)
  ended_forced [] [] = h.none
  ended_forced [] (r ∷ rs) = h.units [] (r ∷ rs)
  ended_forced (a ∷ as_) rs = h.units (a ∷ as_) rs

  taking_forced : (sync : Bool) (c : Connection) (queue : List ℕ) (row : Row) → P (taking_part sync c queue row).forced
  taking_forced true c queue row = h.none
  taking_forced false c queue row = removal_forced queue (persistent_rows (row ∷ []))

  found_forced : (get : Get) (c : Connection) (x : Handle) (queue : List ℕ) (row : Row) → P (found_part get c x queue row).forced
  found_forced get c x queue row = bool_case (is_destructive get.take) (λ b. P (if b then taking_part get.sync c queue row else silent (SetCursor c.number x.number row.place ∷ [])).forced) (λ e. taking_forced get.sync c queue row) (λ e. h.none)

  forced_behind : (xs : List Part) (y : Part) → AllForce P xs → P y.forced → AllForce P (xs ++ y ∷ [])
  forced_behind [] y a b = (b, tt)
  forced_behind (x ∷ xs) y a b = (a.0, forced_behind xs y a.1 b)

  -- ---- applications

  pub conn_forces : (qmgr : List ℕ) (appl : Appl) (p : Plain) → StepForces P (mqconn qmgr appl p)
  conn_forces qmgr appl p = tested_m (conn_tests qmgr p) _ (h.none, tt)

  pub open_forces : (hc : Hconn) (name qmgr : List ℕ) (how : Open) (p : Plain) → StepForces P (mqopen hc name qmgr how p)
  open_forces hc name qmgr how p = going_m (connected hc p) _ (λ c. going_m (none_of (option_tests how)) _ (λ u. going_m (resolve p.definitions p.given.name name qmgr) _
      (λ route. going_m (none_of (open_tests c how route p)) (λ fits. open_step c how route) (λ w. (h.none, tt)))))

  pub close_forces : (hc : Hconn) (ho : Hobj) (p : Plain) → StepForces P (mqclose hc ho p)
  close_forces hc ho p = live_m (connected hc p) (close_up ho) (λ c. open_m (handle_at ho.number c.handles) (close_handle c) (λ x. (h.none, tt)))

  route_m : (c : Connection) (route : Route) (md : Md) (body : List ℕ) (sync : Bool) (p : Plain) → StepForces P (put_route c route md body sync p)
  route_m c route md body sync p = tested_m (put_tests c route md body sync (new_message c route md body p) p) (put_step c route md sync (new_message c route md body p)) (put_forced sync c (queue_at route.end) (new_message c route md body p), tt)

  pub put_forces : (hc : Hconn) (ho : Hobj) (md : Md) (body : List ℕ) (sync : Bool) (p : Plain) → StepForces P (mqput hc ho md body sync p)
  put_forces hc ho md body sync p = live_m (connected hc p) (put_up ho md body sync p) (λ c. open_m (handle_at ho.number c.handles) (put_handle md body sync p c) (λ x. tested_m (output_tests x) (put_route c (handle_route x) md body sync p) (route_m c (handle_route x) md body sync p)))

  put1_m : (r : Result Route Reason) (md : Md) (body : List ℕ) (sync : Bool) (p : Plain) (c : Connection) → StepForces P (put1_resolved r md body sync p c)
  put1_m (Err reason) md body sync p c = tt
  put1_m (Ok route) md body sync p c = tested_m (when (is_unfit output_only route.end p) reasons.OptionNotValidForType ∷ []) (put_route c route md body sync p) (route_m c route md body sync p)

  pub put1_forces : (hc : Hconn) (name qmgr : List ℕ) (md : Md) (body : List ℕ) (sync : Bool) (p : Plain) → StepForces P (mqput1 hc name qmgr md body sync p)
  put1_forces hc name qmgr md body sync p = live_m (connected hc p) (put1_resolved (resolve p.definitions p.given.name name qmgr) md body sync p) (λ c. put1_m (resolve p.definitions p.given.name name qmgr) md body sync p c)

  with_row_m : (cut : Bool) (get : Get) (c : Connection) (x : Handle) (q : List ℕ) (r : Row) (rows : List Row) → StepForces P (with_row cut get c x q r (expired_parts q rows))
  with_row_m true get c x q r rows = removals_forced whys.Expired q rows
  with_row_m false get c x q r rows = forced_behind (expired_parts q rows) (found_part get c x q r) (removals_forced whys.Expired q rows) (found_forced get c x q r)

  without_row_m : (under waiting : Bool) (before : List Part) → AllForce P before → StepForces P (without_row under waiting before)
  without_row_m true waiting before k = k
  without_row_m false true before k = tt
  without_row_m false false before k = k

  get_found_m : (get : Get) (until : Option ℕ) (p : Plain) (c : Connection) (x : Handle) (o : Option Row) (rows : List Row) → StepForces P (get_found get until p c x (expired_parts (queue_at x.leads) rows) o)
  get_found_m get until p c x None rows = without_row_m (is_under get.take) (is_waiting until p) (expired_parts (queue_at x.leads) rows) (removals_forced whys.Expired (queue_at x.leads) rows)
  get_found_m get until p c x (Some r) rows = with_row_m (is_left get r.message) get c x (queue_at x.leads) r rows

  pub get_forces : (hc : Hconn) (ho : Hobj) (get : Get) (until : Option ℕ) (p : Plain) → StepForces P (mqget hc ho get until p)
  get_forces hc ho get until p = live_m (connected hc p) (get_up ho get until p) (λ c. open_m (handle_at ho.number c.handles) (get_handle get until p c)
      (λ x. tested_m (get_tests get p c x) (get_scanned get until p c x (scanned get x p))
      (tested_m (room_tests get c (scanned get x p) p) (get_found get until p c x (expired_parts (queue_at x.leads) (scanned get x p).expired) (scanned get x p).found)
      (get_found_m get until p c x (scanned get x p).found (scanned get x p).expired))))

  pub cmit_forces : (hc : Hconn) (p : Plain) → StepForces P (mqcmit hc p)
  cmit_forces hc p = live_m (connected hc p) _ (λ c. (ended_forced (adds_of c.unit) (removes_of c.unit), tt))

  pub disc_forces : (hc : Hconn) (p : Plain) → StepForces P (mqdisc hc p)
  disc_forces hc p = live_m (connected hc p) _ (λ c. (ended_forced (adds_of c.unit) (removes_of c.unit), tt))

  pub back_forces : (hc : Hconn) (p : Plain) → StepForces P (mqback hc p)
  back_forces hc p = live_m (connected hc p) _ (λ c. (h.none, tt))

  -- ---- agents

  trigger_forced : (o : Option Reason) (q : LocalQueue) (process : Process) (i : LocalQueue) (p : Plain) → P (put_trigger o q process i p).forced
  trigger_forced None q process i p = h.none
  trigger_forced (Some reason) q process i p = h.none

  serve_forced : (q : LocalQueue) (process : Option Process) (i : Option LocalQueue) (p : Plain) → P (serve_by q process i p).forced
  serve_forced q None i p = h.none
  serve_forced q (Some process) None p = h.none
  serve_forced q (Some process) (Some i) p = bool_case (is_transmission i.usage) (λ b. P (serve_into b q process i p).forced) (λ e. h.none) (λ e. trigger_forced (takes_it i p) q process i p)

  serve_m : (o : Option LocalQueue) (p : Plain) → StepForces P (serve o p)
  serve_m None p = tt
  serve_m (Some q) p = (serve_forced q (process_of q.process p.definitions) (local_of q.initiation_queue p.definitions) p, tt)

  pub trigger_forces : (p : Plain) → StepForces P (trigger_turn p)
  trigger_forces p = bool_case (is_up p.running) (λ b. StepForces P (trigger_at b p)) (λ e. serve_m (first_due (locals_of p.definitions) p) p) (λ e. tt)

  pub seize_forces : (channel : List ℕ) (p : Plain) → StepForces P (seize channel p)
  seize_forces channel p =
      let queue : List ℕ = channel_queue (channel_of channel p.definitions) in
      tested_m (when (not (is_transmission_queue (local_of queue p.definitions))) seize_faults.BadQueue ∷ when (is_open_for_input queue p || has_held_by_other channel queue p) seize_faults.QueueInUse ∷ []) _ (h.none, tt)

  pub leave_forces : (channel : List ℕ) (p : Plain) → StepForces P (leave channel p)
  leave_forces channel p = (h.none, tt)

  pub bound_forces : (channel : List ℕ) (bound : Bool) (p : Plain) → StepForces P (set_bound channel bound p)
  bound_forces channel bound p = (h.none, tt)

  pub expire_forces : (channel : List ℕ) (p : Plain) → StepForces P (expire channel p)
  expire_forces channel p = removals_forced whys.Expired (queue_of_sender channel p) (expired_rows (queue_of_sender channel p) p)

  pub hold_forces : (channel : List ℕ) (unit : Luw) (most : ℕ) (p : Plain) → StepForces P (hold_batch channel unit most p)
  hold_forces channel unit most p = (h.none, tt)

  release_m : (channel : List ℕ) (o : Option Batch) → StepForces P (release_of channel o)
  release_m channel None = tt
  release_m channel (Some b) = (h.none, tt)

  pub release_forces : (channel : List ℕ) (p : Plain) → StepForces P (release_batch channel p)
  release_forces channel p = release_m channel (batch_of channel p.channels.batches)

  -- what a channel forces, where it has it
  prepare_m : (channel : List ℕ) (last : ℕ) (o : Option Batch) (p : Plain) → ((b : Batch) → P (Some (prepared_record channel last b))) → StepForces P (prepare_of channel last o p)
  prepare_m channel last None p k = tt
  prepare_m channel last (Some b) p k = tested_m (when (is_full (need (prepared_record channel last b)) p) prepare_faults.NoRoom ∷ []) _ (k b, tt)

  pub prepare_forces : (channel : List ℕ) (last : ℕ) (p : Plain) → ((b : Batch) → P (Some (prepared_record channel last b))) → StepForces P (prepare channel last p)
  prepare_forces channel last p k = prepare_m channel last (batch_of channel p.channels.batches) p k

  received_m : (channel : List ℕ) (unit : Luw) (last : ℕ) (r : Result Landed Reason) (p : Plain) → ((l : Landed) → P (Some (received_record channel unit last l))) → StepForces P (receive_landed channel unit last r p)
  received_m channel unit last (Err reason) p k = tt
  received_m channel unit last (Ok l) p k = tested_m (when (is_full (need (received_record channel unit last l)) p) reasons.ResourceProblem ∷ []) _ (k l, tt)

  pub receive_forces : (channel : List ℕ) (unit : Luw) (last : ℕ) (batch : List Message) (p : Plain) → ((l : Landed) → P (Some (received_record channel unit last l))) → StepForces P (receive channel unit last batch p)
  receive_forces channel unit last batch p k = received_m channel unit last (landed channel batch p) p k

  -- ---- messages that move, and rows that go

  landing_forced : (from : List ℕ) (l : Landing) → P (moved_forced from l)
  landing_forced from l = bool_case (is_persistent l.message) (λ b. P (if b then Some (moved_record from l) else None)) (λ e. h.moves from l.message.ident l.queue l.message) (λ e. h.none)

  resolved_m : (from : List ℕ) (to : Dest) (bare : Bool) (o : Result Route Reason) (m : Message) (p : Plain) → StepForces P (move_resolved from to bare o m p)
  resolved_m from to bare (Err reason) m p = tt
  resolved_m from to bare (Ok route) m p = tested_m (route_tests route (length m.body) p ++ when (move_full from (landing route m) p) reasons.ResourceProblem ∷ []) _ (landing_forced from (landing route m), tt)

  found_m : (from : List ℕ) (to : Dest) (bare : Bool) (o : Option Message) (p : Plain) → StepForces P (move_found from to bare o p)
  found_m from to bare None p = tt
  found_m from to bare (Some m) p = resolved_m from to bare (resolve p.definitions p.given.name to.queue to.qmgr) (bare_if bare m) p

  pub move_forces : (from : List ℕ) (ident : Ident) (to : Dest) (bare : Bool) (p : Plain) → StepForces P (move_row from ident to bare p)
  move_forces from ident to bare p = found_m from to bare (row_with (Some ident) (stored from p).rows) p

  pub discard_forces : (queue : List ℕ) (ident : Ident) (p : Plain) → StepForces P (discard queue ident p)
  discard_forces queue ident p = removals_forced whys.Discarded queue (filter (has_ident ident) (stored queue p).rows)
