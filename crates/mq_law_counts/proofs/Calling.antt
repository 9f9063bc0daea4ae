-- Each call of a manager raises its counters by at most three.
use Rattle.std.proofs.Common.{◌≡◌, ℕ, Bool, true, false, List, [], ◌∷◌, ◌++◌, refl}
use Rattle.std.specs.Prelude.{not, Option, Some, None, Result, Ok, Err, if◌then◌else◌}
use Rattle.mq_codes.specs.declared.reason.Reason.{Reason}
use Rattle.mq_calls.specs.declared.answers.Answer.{Answer}
use Rattle.mq_calls.specs.declared.answers.Answer.TheVariants as answers
use Rattle.mq_calls.specs.declared.answers.Appl.{Appl}
use Rattle.mq_calls.specs.declared.answers.Get.{Get}
use Rattle.mq_calls.specs.declared.answers.Hconn.{Hconn}
use Rattle.mq_calls.specs.declared.answers.Hobj.{Hobj}
use Rattle.mq_calls.specs.declared.answers.Open.{Open}
use Rattle.mq_calls.specs.declared.commands.ScRefusal.{ScRefusal}
use Rattle.mq_calls.specs.declared.deltas.Why.{Why}
use Rattle.mq_calls.specs.declared.deltas.Why.TheVariants as whys
use Rattle.mq_calls.specs.declared.state.Connection.{Connection}
use Rattle.mq_calls.specs.declared.state.Handle.{Handle}
use Rattle.mq_codes.specs.declared.reason.Reason.TheVariants as reasons
use Rattle.mq_message.specs.declared.message.Md.{Md}
use Rattle.mq_objects.specs.declared.command.Command.{Command}
use Rattle.mq_objects.specs.declared.object.Definitions.{Definitions}
use Rattle.mq_queue.specs.declared.row.Row.{Row}
use Rattle.mq_resolve.specs.declared.route.Route.{Route}
use Rattle.mq_resolve.specs.Resolved.{resolve}
use Rattle.mq_sc_apply.specs.declared.answers.Plan.{Plan}
use Rattle.mq_sc_apply.specs.declared.answers.Plan.TheVariants as plans
use Rattle.mq_calls.specs.State.{Plain}
use Rattle.mq_calls.specs.State.Change.{CloseHandle, Connect, Disconnect, OpenHandle}
use Rattle.mq_calls.specs.Reads.{handle_at, is_up}
use Rattle.mq_calls.specs.Steps.{◌>>=◌, going_on, none_of, Step, Part, Test, refused_or, refusal, tested, silent, when}
use Rattle.mq_calls.specs.Steps.Step.{Do, Refuse}
use Rattle.mq_spec_manager.specs.Handles.{connected, for_connection, for_handle, mqconn, mqopen, mqclose, close_up, close_handle, new_connection, new_handle, new_hconn, conn_tests, open_tests, open_step, option_tests, is_unfit}
use Rattle.mq_spec_manager.specs.Put.{mqput, mqput1, put_up, put_handle, put_route, put1_resolved, new_message, put_tests, put_step, put_part, queue_at, output_tests, handle_route, output_only}
use Rattle.mq_spec_manager.specs.Get.{mqget, get_up, get_handle, get_scanned, get_found, with_row, without_row, found_part, expired_parts, removal_parts, scanned, is_left, is_waiting, is_under, room_tests, get_tests}
use Rattle.mq_spec_manager.specs.Units.{mqcmit, mqback, mqdisc, commit_part, backout_part}
use Rattle.mq_calls.specs.declared.commands.ScRefusal.TheVariants as refusals
use Rattle.mq_sc_apply.specs.Commands.{plan}
use Rattle.mq_spec_manager.specs.Commands.{command, planned_step, object_part, uses_of}
use Rattle.std.proofs.Common.{◌≤◌, ◌+◌, ◌∙◌, ap, arith}
use Rattle.std.specs.Prelude.{flat_map, map}
use Rattle.mq_calls.specs.declared.state.Item.{Item}
use Rattle.mq_calls.specs.declared.state.Item.TheVariants.{Put, Take}
use Rattle.mq_calls.specs.declared.records.LogRecord.{LogRecord}
use Rattle.mq_objects.specs.declared.object.Object.TheVariants as objects
use Rattle.mq_objects.specs.declared.object.Process.{Process}
use Rattle.mq_objects.specs.declared.object.LocalQueue.{LocalQueue}
use Rattle.mq_calls.specs.Words.{ObjectChange, Message, Subject, Object, Among, is_persistent, do_part}
use Rattle.mq_objects.specs.declared.change.ObjectChange.TheVariants as changes
use Rattle.mq_objects.specs.declared.command.Subject.TheVariants as subjects
use Rattle.mq_objects.specs.Names.{local_of, locals_of, process_of, name_of, is_transmission}
use Rattle.mq_sc_apply.specs.declared.answers.Planned.{Planned}
use Rattle.mq_resolve.specs.declared.route.PathStep.{PathStep}
use Rattle.mq_calls.specs.State.{Change, Running}
use Rattle.mq_calls.specs.declared.state.Batch.{Batch}
use Rattle.mq_calls.specs.State.Running.{Up, Down}
use Rattle.mq_calls.specs.State.Which.{Nonpersistent}
use Rattle.mq_calls.specs.State.Change.{Leave, Hold, Pend, EndUnit, CountIdent, SetCursor, ForgetAll}
use Rattle.mq_calls.specs.Reads.{connection_at}
use Rattle.mq_calls.specs.Counts.{starts_of}
use Rattle.mq_calls.specs.Changes.{apply, apply_all}
use Rattle.mq_calls.specs.Steps.{logged}
use Rattle.mq_spec_manager.specs.Handles.{live_or, is_other, is_present}
use Rattle.mq_spec_manager.specs.Get.{removal_part, taking_part, is_destructive}
use Rattle.mq_spec_manager.specs.Units.{freed_item}
use Rattle.mq_spec_manager.specs.Commands.{follows, renewed, renewed_if, stale_if, switched_if, dropped}
use Rattle.mq_spec_manager.specs.Triggers.{first_due, serve, serve_by, serve_into, put_trigger, takes_it, trigger_at, trigger_turn}
use Rattle.mq_spec_manager.specs.Stops.{advance_clock, cut, stop, stop_at, at_rest, stop_changes, release_batch}
use Rattle.mq_law_image.proofs.from_law_manager.Lists.{bool_case}
use Rattle.mq_resolve.specs.declared.route.PathStep.TheVariants as steps
use Rattle.mq_message.specs.declared.place.Holder.TheVariants as holders
use Rattle.mq_law_image.specs.Bounds.{all_growth, growth}
use Rattle.mq_law_counts.specs.Counts.{Climbs, PartsClimb, StepClimbs}
use Rattle.mq_law_counts.proofs.Climbing.{climb_on, climb_more, grown, none_climb, one_climbs, pend_climbs, stay, two_climb}
use Rattle.mq_law_counts.proofs.Ending.{ended_climbs_more}

-- Steps that are read from the top: what holds of refusals and of what is at the end holds of the whole.
refused_keeps : {F T : Type 0} (P : Step F T → Type 0) → ((r : F) → P (Refuse r)) → (o : Option F) (s : Step F T) → P s → P (refused_or o s)
refused_keeps P refuses None s h = h
refused_keeps P refuses (Some reason) s h = refuses reason

tested_keeps : {F T : Type 0} (P : Step F T → Type 0) → ((r : F) → P (Refuse r)) → (ts : List (Test F)) (s : Step F T) → P s → P (tested ts s)
tested_keeps P refuses ts s h = refused_keeps P refuses (refusal ts) s h

connection_keeps : {T : Type 0} (P : Step Reason T → Type 0) → ((r : Reason) → P (Refuse r)) → (r : Result Connection Reason) (f : Connection → Step Reason T) → ((c : Connection) → P (f c)) → P (for_connection r f)
connection_keeps P refuses (Ok c) f h = h c
connection_keeps P refuses (Err reason) f h = refuses reason

handle_keeps : {T : Type 0} (P : Step Reason T → Type 0) → ((r : Reason) → P (Refuse r)) → (o : Option Handle) (f : Handle → Step Reason T) → ((h : Handle) → P (f h)) → P (for_handle o f)
handle_keeps P refuses None f k = refuses reasons.ObjectHandleError
handle_keeps P refuses (Some h) f k = k h

going_keeps : {A F T : Type 0} (P : Step F T → Type 0) → ((r : F) → P (Refuse r)) → (r : Result A F) (f : A → Step F T) → ((a : A) → P (f a)) → P (going_on r f)
going_keeps P refuses (Ok a) f h = h a
going_keeps P refuses (Err reason) f h = refuses reason

-- (where the connection lives)
live_keeps : {T : Type 0} (P : Step Reason T → Type 0) → ((r : Reason) → P (Refuse r)) → (r : Result Connection Reason) (f : Connection → Step Reason T) → ((c : Connection) → r ≡ Ok c → P (f c)) → P (for_connection r f)
live_keeps P refuses (Ok c) f h = h c refl
live_keeps P refuses (Err reason) f h = refuses reason

abbrev same_ok : Connection → Result Connection Reason
same_ok c = Ok c

ok_is : (a b : Connection) → same_ok a ≡ same_ok b → a ≡ b
ok_is a b e = cc

live_is : (o : Option Connection) (c : Connection) → live_or o ≡ Ok c → o ≡ Some c
live_is None c e = absurd cc
live_is (Some x) c e = ap (λ (y : Connection). Some y) (ok_is x c e)

connected_is : (hc : Hconn) (p : Plain) (c : Connection) → connected hc p ≡ Ok c → connection_at hc.number p.connections ≡ Some c
connected_is hc p c e = bool_case (is_other hc p) (λ b. (if b then Err reasons.ConnectionHandleError else (if is_present hc p then live_or (connection_at hc.number p.connections) else Err reasons.ConnectionBroken)) ≡ Ok c → connection_at hc.number p.connections ≡ Some c)
    (λ t h. absurd cc)
    (λ t h. bool_case (is_present hc p) (λ b. (if b then live_or (connection_at hc.number p.connections) else Err reasons.ConnectionBroken) ≡ Ok c → connection_at hc.number p.connections ≡ Some c)
    (λ z k. live_is (connection_at hc.number p.connections) c k) (λ z k. absurd cc) h) e

zero_plus : (n : ℕ) → n ≡ 0 → 0 + n ≡ 0
zero_plus n e = omega (arith, e)

abbrev pub Three : {F T : Type 0} → Plain → Step F T → Type 0
Three p s = StepClimbs 3 s p

-- a part whose changes grow by at most three
small : (part : Part) (p : Plain) → all_growth part.changes ≤ 3 → PartsClimb 3 (part ∷ []) p
small part p le = one_climbs 3 part p (grown 3 part.changes (logged part.forced p) le)

at_three : (n k : ℕ) → n ≡ k → k ≤ 3 → n ≤ 3
at_three n k e le = omega (arith, e, le)

zero_three : 0 ≤ 3
zero_three = omega arith

one_three : 1 ≤ 3
one_three = omega arith

two_three : 2 ≤ 3
two_three = omega arith

three_three : 3 ≤ 3
three_three = omega arith

-- MQI calls
pub conn_climbs : (qmgr : List ℕ) (appl : Appl) (p : Plain) → StepClimbs 3 (mqconn qmgr appl p) p
conn_climbs qmgr appl p = tested_keeps (Three p) (λ r. tt) (conn_tests qmgr p) (Do (answers.Ok (new_hconn p)) (silent (Connect (new_connection appl p) ∷ []) ∷ []))
    (small (silent (Connect (new_connection appl p) ∷ [])) p (at_three (all_growth (Connect (new_connection appl p) ∷ [])) 1 refl one_three))

abbrev routed : Connection → Open → Plain → Route → Step Reason (Answer Hobj)
routed c how p route = none_of (open_tests c how route p) >>= (λ fits. open_step c how route)

abbrev asked : List ℕ → List ℕ → Open → Plain → Connection → Step Reason (Answer Hobj)
asked name qmgr how p c = none_of (option_tests how) >>= (λ chosen. resolve p.definitions p.given.name name qmgr >>= routed c how p)

pub open_climbs : (hc : Hconn) (name qmgr : List ℕ) (how : Open) (p : Plain) → StepClimbs 3 (mqopen hc name qmgr how p) p
open_climbs hc name qmgr how p = going_keeps (Three p) (λ r. tt) (connected hc p) (asked name qmgr how p)
    (λ c. going_keeps (Three p) (λ r. tt) (none_of (option_tests how)) (λ chosen. resolve p.definitions p.given.name name qmgr >>= routed c how p)
    (λ chosen. going_keeps (Three p) (λ r. tt) (resolve p.definitions p.given.name name qmgr) (routed c how p)
    (λ route. going_keeps (Three p) (λ r. tt) (none_of (open_tests c how route p)) (λ fits. open_step c how route)
    (λ fits. small (silent (OpenHandle c.number (new_handle how route c) ∷ [])) p one_three))))

pub close_climbs : (hc : Hconn) (ho : Hobj) (p : Plain) → StepClimbs 3 (mqclose hc ho p) p
close_climbs hc ho p = connection_keeps (Three p) (λ r. tt) (connected hc p) (close_up ho)
    (λ c. handle_keeps (Three p) (λ r. tt) (handle_at ho.number c.handles) (close_handle c) (λ h. small (silent (CloseHandle c.number h.number ∷ [])) p zero_three))

put_part_climbs : (sync : Bool) (c : Connection) (queue : List ℕ) (m : Message) (p : Plain) → PartsClimb 3 (put_part sync c queue m ∷ []) p
put_part_climbs true c queue m p =
    let counted : Plain = apply CountIdent p in
    one_climbs 3 (put_part true c queue m) p
    (climb_more 2 3 p (apply (Pend c.number (Put queue m)) counted) two_three (climb_on 1 1 p counted (apply (Pend c.number (Put queue m)) counted) (grown 1 (CountIdent ∷ []) p (self 1)) (pend_climbs c.number (Put queue m) counted)))
  where
    self : (n : ℕ) → n ≤ n
    self n = omega arith
put_part_climbs false c queue m p = small (put_part false c queue m) p three_three

route_climbs : (c : Connection) (route : Route) (md : Md) (body : List ℕ) (sync : Bool) (p : Plain) → StepClimbs 3 (put_route c route md body sync p) p
route_climbs c route md body sync p = tested_keeps (Three p) (λ r. tt) (put_tests c route md body sync (new_message c route md body p) p) (put_step c route md sync (new_message c route md body p))
    (put_part_climbs sync c (queue_at route.end) (new_message c route md body p) p)

pub put_climbs : (hc : Hconn) (ho : Hobj) (md : Md) (body : List ℕ) (sync : Bool) (p : Plain) → StepClimbs 3 (mqput hc ho md body sync p) p
put_climbs hc ho md body sync p = connection_keeps (Three p) (λ r. tt) (connected hc p) (put_up ho md body sync p)
    (λ c. handle_keeps (Three p) (λ r. tt) (handle_at ho.number c.handles) (put_handle md body sync p c)
    (λ h. tested_keeps (Three p) (λ r. tt) (output_tests h) (put_route c (handle_route h) md body sync p) (route_climbs c (handle_route h) md body sync p)))

resolved_climbs : (r : Result Route Reason) (md : Md) (body : List ℕ) (sync : Bool) (p : Plain) (c : Connection) → StepClimbs 3 (put1_resolved r md body sync p c) p
resolved_climbs (Err reason) md body sync p c = tt
resolved_climbs (Ok route) md body sync p c = tested_keeps (Three p) (λ r. tt) (when (is_unfit output_only route.end p) reasons.OptionNotValidForType ∷ []) (put_route c route md body sync p) (route_climbs c route md body sync p)

pub put1_climbs : (hc : Hconn) (name qmgr : List ℕ) (md : Md) (body : List ℕ) (sync : Bool) (p : Plain) → StepClimbs 3 (mqput1 hc name qmgr md body sync p) p
put1_climbs hc name qmgr md body sync p = connection_keeps (Three p) (λ r. tt) (connected hc p) (put1_resolved (resolve p.definitions p.given.name name qmgr) md body sync p)
    (resolved_climbs (resolve p.definitions p.given.name name qmgr) md body sync p)

-- MQGET
zero_zero : 0 ≤ 0
zero_zero = omega arith

taking_climbs : (sync : Bool) (c : Connection) (queue : List ℕ) (row : Row) (p : Plain) → PartsClimb 3 (taking_part sync c queue row ∷ []) p
taking_climbs true c queue row p =
    let hold : Change = Hold (Among queue (row.message.ident ∷ [])) (holders.Unit c.number) in
    let item : Item = Take queue row.message.ident (is_persistent row.message) in
    let held : Plain = apply hold p in
    one_climbs 3 (taking_part true c queue row) p
    (climb_more 1 3 p (apply (Pend c.number item) held) one_three (climb_on 0 1 p held (apply (Pend c.number item) held) (grown 0 (hold ∷ []) p zero_zero) (pend_climbs c.number item held)))
taking_climbs false c queue row p = small (taking_part false c queue row) p zero_three

found_climbs_if : (destructive : Bool) (sync : Bool) (c : Connection) (h : Handle) (queue : List ℕ) (row : Row) (p : Plain)
    → PartsClimb 3 ((if destructive then taking_part sync c queue row else silent (SetCursor c.number h.number row.place ∷ [])) ∷ []) p
found_climbs_if true sync c h queue row p = taking_climbs sync c queue row p
found_climbs_if false sync c h queue row p = small (silent (SetCursor c.number h.number row.place ∷ [])) p zero_three

found_climbs : (get : Get) (c : Connection) (h : Handle) (queue : List ℕ) (row : Row) (p : Plain) → PartsClimb 3 (found_part get c h queue row ∷ []) p
found_climbs get c h queue row p = found_climbs_if (is_destructive get.take) get.sync c h queue row p

-- (expired rows go first)
gone_climb : (why : Why) (queue : List ℕ) (rows : List Row) (p : Plain) → PartsClimb 3 (removal_parts why queue rows) p
gone_climb why queue [] p = none_climb 3 p
gone_climb why queue (row ∷ rows) p = small (removal_part why queue (row ∷ rows)) p zero_three

behind_climb : (why : Why) (queue : List ℕ) (rows : List Row) (part : Part) (p : Plain) → ((q : Plain) → PartsClimb 3 (part ∷ []) q) → PartsClimb 3 (removal_parts why queue rows ++ part ∷ []) p
behind_climb why queue [] part p h = h p
behind_climb why queue (row ∷ rows) part p h =
    let gone : Part = removal_part why queue (row ∷ rows) in
    two_climb 0 3 gone (part ∷ []) p (grown 0 gone.changes (logged gone.forced p) zero_zero) (h (do_part gone p))

row_climbs : (cut : Bool) (get : Get) (c : Connection) (h : Handle) (queue : List ℕ) (row : Row) (rows : List Row) (p : Plain) → StepClimbs 3 (with_row cut get c h queue row (expired_parts queue rows)) p
row_climbs true get c h queue row rows p = gone_climb whys.Expired queue rows p
row_climbs false get c h queue row rows p = behind_climb whys.Expired queue rows (found_part get c h queue row) p (λ q. found_climbs get c h queue row q)

no_row_climbs : (under may_wait : Bool) (queue : List ℕ) (rows : List Row) (p : Plain) → StepClimbs 3 (without_row under may_wait (expired_parts queue rows)) p
no_row_climbs true may_wait queue rows p = gone_climb whys.Expired queue rows p
no_row_climbs false true queue rows p = none_climb 3 p
no_row_climbs false false queue rows p = gone_climb whys.Expired queue rows p

got_climbs : (get : Get) (until : Option ℕ) (p : Plain) (c : Connection) (h : Handle) (rows : List Row) (row : Option Row) → StepClimbs 3 (get_found get until p c h (expired_parts (queue_at h.leads) rows) row) p
got_climbs get until p c h rows None = no_row_climbs (is_under get.take) (is_waiting until p) (queue_at h.leads) rows p
got_climbs get until p c h rows (Some row) = row_climbs (is_left get row.message) get c h (queue_at h.leads) row rows p

pub get_climbs : (hc : Hconn) (ho : Hobj) (get : Get) (until : Option ℕ) (p : Plain) → StepClimbs 3 (mqget hc ho get until p) p
get_climbs hc ho get until p = connection_keeps (Three p) (λ r. tt) (connected hc p) (get_up ho get until p)
    (λ c. handle_keeps (Three p) (λ r. tt) (handle_at ho.number c.handles) (get_handle get until p c)
    (λ h. tested_keeps (Three p) (λ r. tt) (get_tests get p c h) (get_scanned get until p c h (scanned get h p))
    (tested_keeps (Three p) (λ r. tt) (room_tests get c (scanned get h p) p) (get_found get until p c h (expired_parts (queue_at h.leads) (scanned get h p).expired) (scanned get h p).found)
    (got_climbs get until p c h (scanned get h p).expired (scanned get h p).found))))

-- the ends of units
logged_connections : (r : Option LogRecord) (p : Plain) → (logged r p).connections ≡ p.connections
logged_connections None p = refl
logged_connections (Some r) p = refl

ended_part : (number : ℕ) (c : Connection) (more : List Change) (p : Plain) → connection_at number p.connections ≡ Some c → all_growth more ≡ 0 → PartsClimb 3 (commit_part more c ∷ []) p
ended_part number c more p is none =
    let part : Part = commit_part more c in
    let at : Plain = logged part.forced p in
    one_climbs 3 part p (climb_more 0 3 at (apply_all part.changes at) zero_three
    (ended_climbs_more c number more at (ap (λ (cs : List Connection). connection_at number cs) (logged_connections part.forced p) ∙ is) none))

pub cmit_climbs : (hc : Hconn) (p : Plain) → StepClimbs 3 (mqcmit hc p) p
cmit_climbs hc p = live_keeps (Three p) (λ r. tt) (connected hc p) (λ c. Do (answers.Ok tt) (commit_part [] c ∷ []))
    (λ c e. ended_part hc.number c [] p (connected_is hc p c e) refl)

pub disc_climbs : (hc : Hconn) (p : Plain) → StepClimbs 3 (mqdisc hc p) p
disc_climbs hc p = live_keeps (Three p) (λ r. tt) (connected hc p) (λ c. Do (answers.Ok tt) (commit_part (Disconnect c.number ∷ []) c ∷ []))
    (λ c e. ended_part hc.number c (Disconnect c.number ∷ []) p (connected_is hc p c e) refl)

freed_growth : (items : List Item) (number : ℕ) → all_growth (flat_map freed_item items ++ EndUnit number ∷ []) ≡ 0
freed_growth [] number = refl
freed_growth (Put queue m ∷ items) number = freed_growth items number
freed_growth (Take queue ident persistent ∷ items) number = zero_plus (all_growth (flat_map freed_item items ++ EndUnit number ∷ [])) (freed_growth items number)

pub back_climbs : (hc : Hconn) (p : Plain) → StepClimbs 3 (mqback hc p) p
back_climbs hc p = connection_keeps (Three p) (λ r. tt) (connected hc p) (λ c. Do (answers.Ok tt) (backout_part c ∷ []))
    (λ c. small (backout_part c) p (at_three (all_growth (backout_part c).changes) 0 (freed_growth c.unit c.number) zero_three))

-- commands on objects
growth_both : (xs ys : List Change) → all_growth xs ≡ 0 → all_growth ys ≡ 0 → all_growth (xs ++ ys) ≡ 0
growth_both [] ys e f = f
growth_both (x ∷ xs) ys e f = sum (growth x) (all_growth xs) (all_growth (xs ++ ys)) e (λ h. growth_both xs ys h f)
  where
    zero_of : (a b : ℕ) → a + b ≡ 0 → b ≡ 0
    zero_of a b h = omega (arith, h)

    first_of : (a b : ℕ) → a + b ≡ 0 → a ≡ 0
    first_of a b h = omega (arith, h)

    add : (a c : ℕ) → a ≡ 0 → c ≡ 0 → a + c ≡ 0
    add a c h k = omega (arith, h, k)

    sum : (a b c : ℕ) → a + b ≡ 0 → (b ≡ 0 → c ≡ 0) → a + c ≡ 0
    sum a b c h k = add a c (first_of a b h) (k (zero_of a b h))

stale_growth : (b : Bool) (step : PathStep) → all_growth (stale_if b step) ≡ 0
stale_growth true step = refl
stale_growth false step = refl

switched_growth : (b : Bool) (name : List ℕ) → all_growth (switched_if b name) ≡ 0
switched_growth true name = refl
switched_growth false name = refl

renewed_if_growth : (o : Option LocalQueue) (name : List ℕ) → all_growth (renewed_if o name) ≡ 0
renewed_if_growth None name = refl
renewed_if_growth (Some q) name = refl

renewed_growth : (new : Object) (d : Definitions) → all_growth (renewed new d) ≡ 0
renewed_growth (objects.Local q) d = renewed_if_growth (local_of q.name d) q.name
renewed_growth _ d = refl

dropped_growth : (s : Subject) → all_growth (dropped s) ≡ 0
dropped_growth (subjects.Local name) = refl
dropped_growth _ = refl

follows_growth : (change : ObjectChange) (planned : Planned) (d : Definitions) → all_growth (follows change planned d) ≡ 0
follows_growth (changes.Set new) planned d =
    growth_both (renewed new d ++ stale_if planned.reroutes (steps.Queue (name_of new))) (switched_if planned.switches_on (name_of new))
    (growth_both (renewed new d) (stale_if planned.reroutes (steps.Queue (name_of new))) (renewed_growth new d) (stale_growth planned.reroutes (steps.Queue (name_of new)))) (switched_growth planned.switches_on (name_of new))
follows_growth (changes.SetManager m) planned d = stale_growth planned.reroutes steps.DefXmitq
follows_growth (changes.Delete subject) planned d = dropped_growth subject

planned_climbs : (r : Result Plan ScRefusal) (d : Definitions) (p : Plain) → StepClimbs 3 (planned_step r d) p
planned_climbs (Err reason) d p = tt
planned_climbs (Ok (plans.Show shown)) d p = none_climb 3 p
planned_climbs (Ok (plans.Change planned)) d p = small (object_part planned d) p (at_three (all_growth (object_part planned d).changes) 0 (zero_plus (all_growth (follows planned.change planned d)) (follows_growth planned.change planned d)) zero_three)

pub command_climbs : (c : Command) (p : Plain) → StepClimbs 3 (command c p) p
command_climbs c p = tested_keeps (Three p) (λ r. tt) (when (not (is_up p.running)) refusals.Down ∷ []) (planned_step (plan c p.given.name p.definitions (uses_of p)) p.definitions)
    (planned_climbs (plan c p.given.name p.definitions (uses_of p)) p.definitions p)

-- trigger turns
put_trigger_climbs : (o : Option Reason) (q : LocalQueue) (process : Process) (i : LocalQueue) (p : Plain) → PartsClimb 3 (put_trigger o q process i p ∷ []) p
put_trigger_climbs (Some reason) q process i p = small (put_trigger (Some reason) q process i p) p zero_three
put_trigger_climbs None q process i p = small (put_trigger None q process i p) p two_three

serve_into_climbs : (b : Bool) (q : LocalQueue) (process : Process) (i : LocalQueue) (p : Plain) → PartsClimb 3 (serve_into b q process i p ∷ []) p
serve_into_climbs true q process i p = small (serve_into true q process i p) p zero_three
serve_into_climbs false q process i p = put_trigger_climbs (takes_it i p) q process i p

serve_by_climbs : (q : LocalQueue) (process : Option Process) (i : Option LocalQueue) (p : Plain) → PartsClimb 3 (serve_by q process i p ∷ []) p
serve_by_climbs q None i p = small (serve_by q None i p) p zero_three
serve_by_climbs q (Some process) None p = small (serve_by q (Some process) None p) p zero_three
serve_by_climbs q (Some process) (Some i) p = serve_into_climbs (is_transmission i.usage) q process i p

serve_climbs : (o : Option LocalQueue) (p : Plain) → StepClimbs 3 (serve o p) p
serve_climbs None p = none_climb 3 p
serve_climbs (Some q) p = serve_by_climbs q (process_of q.process p.definitions) (local_of q.initiation_queue p.definitions) p

trigger_climbs_at : (up : Bool) (p : Plain) → StepClimbs 3 (trigger_at up p) p
trigger_climbs_at false p = none_climb 3 p
trigger_climbs_at true p = serve_climbs (first_due (locals_of p.definitions) p) p

pub trigger_climbs : (p : Plain) → StepClimbs 3 (trigger_turn p) p
trigger_climbs p = trigger_climbs_at (is_up p.running) p

-- Stops, cuts, clocks.
released_growth : (bs : List Batch) → all_growth (map release_batch bs ++ Leave Nonpersistent ∷ ForgetAll ∷ []) ≡ 0
released_growth [] = refl
released_growth (b ∷ bs) = zero_plus (all_growth (map release_batch bs ++ Leave Nonpersistent ∷ ForgetAll ∷ [])) (released_growth bs)

stop_climbs_at : (r : Running) (p : Plain) → Climbs 0 p (stop_at r p).next
stop_climbs_at Up p =
    let rest : Climbs 0 p (at_rest p) = grown 0 (stop_changes p) p (at_zero (all_growth (stop_changes p)) (zero_plus (all_growth (map release_batch p.channels.batches ++ Leave Nonpersistent ∷ ForgetAll ∷ [])) (released_growth p.channels.batches))) in
    record {
      incarnation = down (at_rest p).numbers.incarnation (starts_of (at_rest p).running) (p.numbers.incarnation + starts_of p.running) rest.incarnation;
      idents = rest.idents;
      connections = rest.connections;
      handles = rest.handles;
      arrivals = rest.arrivals;
      due = rest.due;
    }
  where
    at_zero : (n : ℕ) → n ≡ 0 → n ≤ 0
    at_zero n e = omega (arith, e)

    down : (a b c : ℕ) → a + b ≤ c + 0 → a + 0 ≤ c + 0
    down a b c le = omega (arith, le)
stop_climbs_at (Down noted starts) p = stay 0 p

pub stop_climbs : (p : Plain) → Climbs 0 p (stop p).next
stop_climbs p = stop_climbs_at p.running p

pub cut_climbs : (k : ℕ) (p : Plain) → Climbs 0 p (cut k p)
cut_climbs k p = let r = stay 0 p in record { incarnation = r.incarnation; idents = r.idents; connections = r.connections; handles = r.handles; arrivals = r.arrivals; due = r.due }

pub clock_climbs : (by : ℕ) (p : Plain) → Climbs 0 p (advance_clock by p)
clock_climbs by p = let r = stay 0 p in record { incarnation = r.incarnation; idents = r.idents; connections = r.connections; handles = r.handles; arrivals = r.arrivals; due = r.due }
