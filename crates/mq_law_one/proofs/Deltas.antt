-- No event of a manager without channels commits what a channel received.
use Rattle.std.proofs.Common.{ℕ, zero, suc, ◌≡◌, Bool, true, false, not, List, [], ◌∷◌, ◌++◌, refl, sym, subst, map}
use Rattle.std.specs.Prelude.{Option, Some, None, Result, Ok, Err, if◌then◌else◌, flat_map, filter, slice_get, length}
use Rattle.mq_message.specs.declared.message.Md.{Md}
use Rattle.mq_message.specs.declared.message.Message.{Message}
use Rattle.mq_codes.specs.declared.reason.Reason.{Reason}
use Rattle.mq_frame.specs.declared.frame.Seen.{Seen}
use Rattle.mq_queue.specs.declared.row.Row.{Row}
use Rattle.mq_resolve.specs.declared.route.Route.{Route}
use Rattle.mq_resolve.specs.Resolved.{resolve}
use Rattle.mq_objects.specs.declared.object.LocalQueue.{LocalQueue}
use Rattle.mq_objects.specs.declared.object.Process.{Process}
use Rattle.mq_objects.specs.declared.command.Command.{Command}
use Rattle.mq_objects.specs.Names.{local_of, locals_of, process_of, is_transmission}
use Rattle.mq_sc_apply.specs.declared.answers.Plan.{Plan}
use Rattle.mq_sc_apply.specs.declared.answers.Plan.TheVariants as plans
use Rattle.mq_sc_apply.specs.Commands.{plan}
use Rattle.mq_sc_parse.specs.declared.command.Command.TheVariants as lines
use Rattle.mq_calls.specs.declared.answers.Answer.{Answer}
use Rattle.mq_calls.specs.declared.answers.Answer.TheVariants as answers
use Rattle.mq_codes.specs.declared.reason.Reason.TheVariants as reasons
use Rattle.mq_calls.specs.declared.answers.Appl.{Appl}
use Rattle.mq_calls.specs.declared.answers.Get.{Get}
use Rattle.mq_calls.specs.declared.answers.GetAnswer.{GetAnswer}
use Rattle.mq_calls.specs.declared.answers.GetAnswer.TheVariants as get_answers
use Rattle.mq_calls.specs.declared.answers.Hconn.{Hconn}
use Rattle.mq_calls.specs.declared.answers.Hobj.{Hobj}
use Rattle.mq_calls.specs.declared.answers.Open.{Open}
use Rattle.mq_calls.specs.declared.choices.Choice.{Choice}
use Rattle.mq_calls.specs.declared.choices.Choice.TheVariants.{Runs, NoMemory, Stopped}
use Rattle.mq_calls.specs.declared.choices.Return.{Return}
use Rattle.mq_calls.specs.declared.choices.Return.TheVariants.{Comes, Fails}
use Rattle.mq_calls.specs.declared.commands.Shown.{Shown}
use Rattle.mq_calls.specs.declared.commands.ScRefusal.{ScRefusal}
use Rattle.mq_calls.specs.declared.commands.RestartFault.TheVariants as faults
use Rattle.mq_calls.specs.declared.deltas.Did.{Did}
use Rattle.mq_calls.specs.declared.deltas.Did.TheVariants as did
use Rattle.mq_calls.specs.declared.deltas.Why.{Why}
use Rattle.mq_calls.specs.declared.deltas.Why.TheVariants as whys
use Rattle.mq_calls.specs.declared.state.Connection.{Connection}
use Rattle.mq_calls.specs.declared.state.Handle.{Handle}
use Rattle.mq_calls.specs.declared.state.Item.{Item}
use Rattle.mq_calls.specs.declared.state.Item.TheVariants.{Put, Take}
use Rattle.mq_history.specs.declared.acts.Act.TheVariants as acts
use Rattle.mq_history.specs.declared.calls.Actor.{Actor}
use Rattle.mq_history.specs.declared.calls.Call.{Call}
use Rattle.mq_history.specs.declared.calls.Call.TheVariants as calls
use Rattle.mq_history.specs.declared.calls.Chance.{Chance}
use Rattle.mq_history.specs.declared.calls.Chance.TheVariants as chances
use Rattle.mq_history.specs.declared.calls.Reply.{Reply}
use Rattle.mq_history.specs.declared.calls.Reply.TheVariants as replies
use Rattle.mq_history.specs.declared.acts.Acted.TheVariants as acted
use Rattle.mq_calls.specs.declared.commands.ScRefusal.TheVariants as refusals
use Rattle.mq_calls.specs.State.{Plain, Running}
use Rattle.mq_calls.specs.State.Running.{Up, Down}
use Rattle.mq_calls.specs.Reads.{handle_at, is_up, stored}
use Rattle.mq_calls.specs.Steps.{none_of, when, going_on, silent, Step, Part, delta_of, delta_before}
use Rattle.mq_calls.specs.State.Change.{SetCursor, Connect}
use Rattle.mq_calls.specs.Steps.Step.{Refuse, Do}
use Rattle.mq_spec_manager.specs.Handles.{is_unfit, option_tests, open_tests, open_step, new_hconn, new_connection, connected, mqconn, mqopen, mqclose, conn_tests, close_up, close_handle}
use Rattle.mq_spec_manager.specs.Put.{output_only, mqput, mqput1, put_up, put_handle, put_route, put_part, put_tests, put1_resolved, output_tests, handle_route, new_message, queue_at}
use Rattle.mq_spec_manager.specs.Get.{mqget, get_up, get_handle, get_tests, room_tests, get_found, scanned, expired_parts, removal_parts, taking_part, found_part, is_destructive, is_under, is_waiting, is_left, with_row, without_row}
use Rattle.mq_spec_manager.specs.Units.{mqcmit, mqback, mqdisc, removed_item, placed_did, released_did}
use Rattle.mq_spec_manager.specs.Commands.{command, planned_step, uses_of}
use Rattle.mq_spec_manager.specs.Stops.{stop_at, restart_at, lasts}
use Rattle.mq_spec_manager.specs.Triggers.{first_due, trigger_turn, trigger_at, serve, serve_by, serve_into, put_trigger, takes_it}
use Rattle.mq_history.specs.declared.calls.Actor.TheVariants as actors
use Rattle.mq_message.specs.declared.message.Dest.{Dest}
use Rattle.mq_message.specs.declared.message.Ident.{Ident}
use Rattle.mq_queue.specs.Rows.{has_ident}
use Rattle.mq_rules.specs.declared.rule.Rule.{Rule}
use Rattle.mq_rules.specs.declared.rule.Action.{Action}
use Rattle.mq_rules.specs.declared.rule.Action.TheVariants as actions
use Rattle.mq_spec_manager.specs.Batches.{row_with}
use Rattle.mq_spec_manager.specs.Landing.{landing, route_tests}
use Rattle.mq_spec_manager.specs.Moves.{bare_if, move_full, move_part, move_resolved, move_found, move_row}
use Rattle.mq_spec_node.specs.Handlers as handlers
use Rattle.mq_spec_node.specs.Node.{Node, Own, Handler, handler_in}
use Rattle.mq_spec_node.specs.Deeds.{Deed, told, parts_of, done, mqi_deed, ended_deed}
use Rattle.mq_spec_node.specs.Happens.{handler_turn, crashed, event, IsEvent, IsReturn, done_or, get_deed, command_deed, where_up, trigger_deed_of, turn_up, timeout_by, restarted as node_restarted}
use Rattle.mq_spec_node.specs.Status.{show_status, shown, status_line, is_asked}
use Rattle.mq_spec_node.specs.Replays.{IsOwn}
use Rattle.mq_spec_network.specs.Order.{unit_received}
use Rattle.mq_law_story.proofs.from_law_rows.Lists.{bool_case}
use Rattle.mq_law_events.proofs.Taking.{removed_all}
use Rattle.mq_law_manager.proofs.ShortSteps.{tested_all, going_all, live_all, open_all}
use Rattle.mq_law_one.specs.Alone.{IsOwnCall}
use Rattle.mq_law_one.proofs.Acting.{operated_is, no_deed, turn_none, timeout_none}

-- what is told has no such commit
abbrev pub IsQuiet : List Did → Type 0
IsQuiet ds = unit_received ds ≡ None

quiet_append : (xs ys : List Did) → IsQuiet xs → IsQuiet ys → IsQuiet (xs ++ ys)
quiet_append [] ys a b = b
quiet_append (did.Placed q i dead ∷ xs) ys a b = quiet_append xs ys a b
quiet_append (did.Removed q i why ∷ xs) ys a b = quiet_append xs ys a b
quiet_append (did.Moved q i to target bare ∷ xs) ys a b = quiet_append xs ys a b
quiet_append (did.Held q i by_ ∷ xs) ys a b = quiet_append xs ys a b
quiet_append (did.Released q i ∷ xs) ys a b = quiet_append xs ys a b
quiet_append (did.Hardened c note ∷ xs) ys a b = quiet_append xs ys a b
quiet_append (did.Prepared c u ∷ xs) ys a b = quiet_append xs ys a b
quiet_append (did.Received c u ∷ xs) ys a b = absurd cc

abbrev pub AllQuiet : List Part → Type 0
AllQuiet [] = Unit {0}
AllQuiet (part ∷ parts) = IsQuiet part.delta × AllQuiet parts

all_append : (xs ys : List Part) → AllQuiet xs → AllQuiet ys → AllQuiet (xs ++ ys)
all_append [] ys a b = b
all_append (x ∷ xs) ys a b = (a.0, all_append xs ys a.1 b)

delta_quiet : (parts : List Part) → AllQuiet parts → IsQuiet (delta_of parts)
delta_quiet [] a = refl
delta_quiet (part ∷ parts) a = quiet_append part.delta (delta_of parts) a.0 (delta_quiet parts a.1)

before_quiet : (n : ℕ) (parts : List Part) → AllQuiet parts → IsQuiet (delta_before n parts)
before_quiet n [] a = refl
before_quiet zero (part ∷ parts) a = refl
before_quiet (suc n) (part ∷ parts) a = quiet_append part.delta (delta_before n parts) a.0 (before_quiet n parts a.1)

done_quiet : (d : Deed) (choice : Choice) (n : Node) → AllQuiet d.parts → IsQuiet (done d choice n).delta
done_quiet d Runs n a = delta_quiet d.parts a
done_quiet d NoMemory n a = refl
done_quiet d (Stopped by_ part left) n a = before_quiet part d.parts a

abbrev pub StepQuiet : {F T : Type 0} → Step F T → Type 0
StepQuiet (Refuse reason) = Unit {0}
StepQuiet (Do reply parts) = AllQuiet parts

mqi_quiet : {T : Type 0} (f : Answer T → Reply) (own : Own) (step : Step Reason (Answer T)) → StepQuiet step → AllQuiet (mqi_deed f own step).parts
mqi_quiet f own (Refuse reason) a = tt
mqi_quiet f own (Do reply parts) a = a

ended_quiet : {T : Type 0} (f : Answer T → Reply) (own : Own) (step : Step Reason (Answer T)) → StepQuiet step → AllQuiet (ended_deed f own step).parts
ended_quiet f own (Refuse reason) a = tt
ended_quiet f own (Do reply parts) a = a

-- Each call

conn_quiet : (qmgr : List ℕ) (appl : Appl) (p : Plain) → StepQuiet (mqconn qmgr appl p)
conn_quiet qmgr appl p = tested_all StepQuiet (λ r. tt) (conn_tests qmgr p) (Do (answers.Ok (new_hconn p)) (silent (Connect (new_connection appl p) ∷ []) ∷ [])) (refl, tt)

open_quiet : (hc : Hconn) (name qmgr : List ℕ) (how : Open) (p : Plain) → StepQuiet (mqopen hc name qmgr how p)
open_quiet hc name qmgr how p = going_all StepQuiet (λ r. tt) (connected hc p) (λ c. going_on (none_of (option_tests how)) (λ chosen. going_on (resolve p.definitions p.given.name name qmgr) (λ route. going_on (none_of (open_tests c how route p)) (λ fits. open_step c how route)))) (λ c.
    going_all StepQuiet (λ r. tt) (none_of (option_tests how)) (λ chosen. going_on (resolve p.definitions p.given.name name qmgr) (λ route. going_on (none_of (open_tests c how route p)) (λ fits. open_step c how route))) (λ x.
    going_all StepQuiet (λ r. tt) (resolve p.definitions p.given.name name qmgr) (λ route. going_on (none_of (open_tests c how route p)) (λ fits. open_step c how route)) (λ route.
    going_all StepQuiet (λ r. tt) (none_of (open_tests c how route p)) (λ fits. open_step c how route) (λ y. (refl, tt)))))

close_quiet : (hc : Hconn) (ho : Hobj) (p : Plain) → StepQuiet (mqclose hc ho p)
close_quiet hc ho p = live_all StepQuiet (λ r. tt) (connected hc p) (close_up ho) (λ c. open_all StepQuiet (λ r. tt) (handle_at ho.number c.handles) (close_handle c) (λ h. (refl, tt)))

part_quiet : (sync : Bool) (c : Connection) (q : List ℕ) (message : Message) → IsQuiet (put_part sync c q message).delta
part_quiet true c q message = refl
part_quiet false c q message = refl

route_quiet : (c : Connection) (route : Route) (md : Md) (body : List ℕ) (sync : Bool) (p : Plain) → StepQuiet (put_route c route md body sync p)
route_quiet c route md body sync p = tested_all StepQuiet (λ r. tt) (put_tests c route md body sync (new_message c route md body p) p) _ (part_quiet sync c (queue_at route.end) (new_message c route md body p), tt)

put_quiet : (hc : Hconn) (ho : Hobj) (md : Md) (body : List ℕ) (sync : Bool) (p : Plain) → StepQuiet (mqput hc ho md body sync p)
put_quiet hc ho md body sync p = live_all StepQuiet (λ r. tt) (connected hc p) (put_up ho md body sync p) (λ c. open_all StepQuiet (λ r. tt) (handle_at ho.number c.handles) (put_handle md body sync p c)
    (λ h. tested_all StepQuiet (λ r. tt) (output_tests h) _ (route_quiet c (handle_route h) md body sync p)))

put1_quiet : (hc : Hconn) (name qmgr : List ℕ) (md : Md) (body : List ℕ) (sync : Bool) (p : Plain) → StepQuiet (mqput1 hc name qmgr md body sync p)
put1_quiet hc name qmgr md body sync p = live_all StepQuiet (λ r. tt) (connected hc p) (put1_resolved (resolve p.definitions p.given.name name qmgr) md body sync p) (λ c. go c (resolve p.definitions p.given.name name qmgr))
  where
    go : (c : Connection) (r : Result Route Reason) → StepQuiet (put1_resolved r md body sync p c)
    go c (Err reason) = tt
    go c (Ok route) = tested_all StepQuiet (λ r. tt) (when (is_unfit output_only route.end p) reasons.OptionNotValidForType ∷ []) (put_route c route md body sync p) (route_quiet c route md body sync p)

removed_quiet : (items : List Item) (ds : List Did) → IsQuiet ds → IsQuiet (flat_map removed_item items ++ ds)
removed_quiet [] ds a = a
removed_quiet (Put q message ∷ items) ds a = removed_quiet items ds a
removed_quiet (Take q i lasting ∷ items) ds a = removed_quiet items ds a

placed_quiet : (items : List Item) → IsQuiet (flat_map placed_did items)
placed_quiet [] = refl
placed_quiet (Put q message ∷ items) = placed_quiet items
placed_quiet (Take q i lasting ∷ items) = placed_quiet items

released_quiet : (items : List Item) → IsQuiet (flat_map released_did items)
released_quiet [] = refl
released_quiet (Put q message ∷ items) = released_quiet items
released_quiet (Take q i lasting ∷ items) = released_quiet items

commit_quiet : (hc : Hconn) (p : Plain) → StepQuiet (mqcmit hc p)
commit_quiet hc p = live_all StepQuiet (λ r. tt) (connected hc p) _ (λ c. (removed_quiet c.unit (flat_map placed_did c.unit) (placed_quiet c.unit), tt))

disc_quiet : (hc : Hconn) (p : Plain) → StepQuiet (mqdisc hc p)
disc_quiet hc p = live_all StepQuiet (λ r. tt) (connected hc p) _ (λ c. (removed_quiet c.unit (flat_map placed_did c.unit) (placed_quiet c.unit), tt))

back_quiet : (hc : Hconn) (p : Plain) → StepQuiet (mqback hc p)
back_quiet hc p = live_all StepQuiet (λ r. tt) (connected hc p) _ (λ c. (released_quiet c.unit, tt))

pub all_removed : (why : Why) (q : List ℕ) (xs : List Row) → IsQuiet (removed_all why q xs)
all_removed why q [] = refl
all_removed why q (x ∷ xs) = all_removed why q xs

pub parts_removed : (why : Why) (q : List ℕ) (xs : List Row) → AllQuiet (removal_parts why q xs)
parts_removed why q [] = tt
parts_removed why q (x ∷ xs) = (all_removed why q (x ∷ xs), tt)

found_quiet : (get : Get) (c : Connection) (h : Handle) (q : List ℕ) (row : Row) → IsQuiet (found_part get c h q row).delta
found_quiet get c h q row = go (is_destructive get.take) get.sync
  where
    go : (d sync : Bool) → IsQuiet (if d then taking_part sync c q row else silent (SetCursor c.number h.number row.place ∷ [])).delta
    go true true = refl
    go true false = refl
    go false sync = refl

get_quiet : (hc : Hconn) (ho : Hobj) (get : Get) (until : Option ℕ) (p : Plain) → StepQuiet (mqget hc ho get until p)
get_quiet hc ho get until p =
    live_all StepQuiet (λ r. tt) (connected hc p) (get_up ho get until p) (λ c.
    open_all StepQuiet (λ r. tt) (handle_at ho.number c.handles) (get_handle get until p c) (λ h.
    tested_all StepQuiet (λ r. tt) (get_tests get p c h) _ (
    tested_all StepQuiet (λ r. tt) (room_tests get c (scanned get h p) p) _ (found c h (scanned get h p).found))))
  where
    gone : (h : Handle) → AllQuiet (expired_parts (queue_at h.leads) (scanned get h p).expired)
    gone h = parts_removed whys.Expired (queue_at h.leads) (scanned get h p).expired

    found : (c : Connection) (h : Handle) (o : Option Row) → StepQuiet (get_found get until p c h (expired_parts (queue_at h.leads) (scanned get h p).expired) o)
    found c h None = none (is_under get.take) (is_waiting until p)
      where
        none : (under waiting : Bool) → StepQuiet (without_row under waiting (expired_parts (queue_at h.leads) (scanned get h p).expired))
        none true waiting = gone h
        none false true = tt
        none false false = gone h
    found c h (Some row) = one (is_left get row.message)
      where
        one : (left : Bool) → StepQuiet (with_row left get c h (queue_at h.leads) row (expired_parts (queue_at h.leads) (scanned get h p).expired))
        one true = gone h
        one false = all_append (expired_parts (queue_at h.leads) (scanned get h p).expired) (found_part get c h (queue_at h.leads) row ∷ []) (gone h) (found_quiet get c h (queue_at h.leads) row, tt)

got_quiet : (own : Own) (step : Step Reason GetAnswer) (choice : Choice) (n : Node) → StepQuiet step → IsQuiet (done_or (get_deed own step) choice n).delta
got_quiet own (Refuse reason) choice n a = done_quiet (told (replies.Got (answers.Failed reason)) own) choice n tt
got_quiet own (Do get_answers.NotYet parts) choice n a = refl
got_quiet own (Do (get_answers.Done answer) parts) choice n a = done_quiet (record { wanting = Some (replies.Got (answers.Failed reasons.StorageNotAvailable)); reply = replies.Got answer; parts = parts; pushed = None; received = []; own = own }) choice n a

command_quiet : (c : Command) (p : Plain) → StepQuiet (command c p)
command_quiet c p = tested_all StepQuiet (λ r. tt) (when (not (is_up p.running)) refusals.Down ∷ []) (planned_step (plan c p.given.name p.definitions (uses_of p)) p.definitions) (go (plan c p.given.name p.definitions (uses_of p)))
  where
    go : (r : Result Plan ScRefusal) → StepQuiet (planned_step r p.definitions)
    go (Ok (plans.Change planned)) = (refl, tt)
    go (Ok (plans.Show shown)) = tt
    go (Err refusal) = tt

obeyed_quiet : (own : Own) (step : Step ScRefusal Shown) → StepQuiet step → AllQuiet (command_deed own step).parts
obeyed_quiet own (Refuse reason) a = tt
obeyed_quiet own (Do shown parts) a = a

serve_quiet : (q : LocalQueue) (o : Option Process) (i : Option LocalQueue) (p : Plain) → IsQuiet (serve_by q o i p).delta
serve_quiet q None i p = refl
serve_quiet q (Some process) None p = refl
serve_quiet q (Some process) (Some i) p = usage (is_transmission i.usage)
  where
    into : (o : Option Reason) → IsQuiet (put_trigger o q process i p).delta
    into None = refl
    into (Some reason) = refl

    usage : (b : Bool) → IsQuiet (serve_into b q process i p).delta
    usage true = refl
    usage false = into (takes_it i p)

turn_quiet : (up : Bool) (o : Option LocalQueue) (p : Plain) → first_due (locals_of p.definitions) p ≡ o → StepQuiet (trigger_at up p)
turn_quiet false o p e = tt
turn_quiet true None p e = subst (λ x. StepQuiet (serve x p)) (sym e) tt
turn_quiet true (Some q) p e = subst (λ x. StepQuiet (serve x p)) (sym e) (serve_quiet q (process_of q.process p.definitions) (local_of q.initiation_queue p.definitions) p, tt)

step_parts : {F T : Type 0} (s : Step F T) → StepQuiet s → AllQuiet (parts_of s)
step_parts (Refuse reason) a = tt
step_parts (Do reply parts) a = a

due_quiet : (r : Running) (o : Option LocalQueue) (choice : Choice) (n : Node) → IsQuiet (done_or (where_up r (trigger_deed_of o n)) choice n).delta
due_quiet Up None choice n = refl
due_quiet Up (Some q) choice n = done_quiet (record (told (replies.Triggered q.name) n.own) { parts = parts_of (trigger_turn n.manager) }) choice n (step_parts (trigger_turn n.manager) (turn_quiet (is_up n.manager.running) (first_due (locals_of n.manager.definitions) n.manager) n.manager refl))
due_quiet (Down noted starts) None choice n = refl
due_quiet (Down noted starts) (Some q) choice n = refl

shown_parts : (own : Own) (any : Bool) (lines : List (List ℕ)) → AllQuiet (shown own any lines).parts
shown_parts own true [] = tt
shown_parts own false [] = tt
shown_parts own any (line ∷ lines) = tt

status_parts : (name : List ℕ) (any : Bool) (n : Node) → AllQuiet (show_status name any n).parts
status_parts name any n = go (is_up n.manager.running)
  where
    go : (t : Bool) → AllQuiet (if t then shown n.own any (map (status_line n.manager) (filter (is_asked name any) n.own.ends)) else told (replies.Acted (acted.Sc refusals.Down)) n.own).parts
    go true = shown_parts n.own any (map (status_line n.manager) (filter (is_asked name any) n.own.ends))
    go false = tt

stop_quiet : (r : Running) (n : Node) → IsQuiet (crashed (stop_at r n.manager) n).delta
stop_quiet Up n = refl
stop_quiet (Down noted starts) n = refl

-- part of what is quiet is so
pub filter_quiet : (f : Did → Bool) (ds : List Did) → IsQuiet ds → IsQuiet (filter f ds)
filter_quiet f [] a = refl
filter_quiet f (did.Received c u ∷ ds) a = absurd cc
filter_quiet f (did.Placed q i dead ∷ ds) a = bool_case (f (did.Placed q i dead)) (λ t. IsQuiet (if t then did.Placed q i dead ∷ filter f ds else filter f ds)) (λ e. filter_quiet f ds a) (λ e. filter_quiet f ds a)
filter_quiet f (did.Removed q i why ∷ ds) a = bool_case (f (did.Removed q i why)) (λ t. IsQuiet (if t then did.Removed q i why ∷ filter f ds else filter f ds)) (λ e. filter_quiet f ds a) (λ e. filter_quiet f ds a)
filter_quiet f (did.Moved q i to target bare ∷ ds) a = bool_case (f (did.Moved q i to target bare)) (λ t. IsQuiet (if t then did.Moved q i to target bare ∷ filter f ds else filter f ds)) (λ e. filter_quiet f ds a) (λ e. filter_quiet f ds a)
filter_quiet f (did.Held q i by_ ∷ ds) a = bool_case (f (did.Held q i by_)) (λ t. IsQuiet (if t then did.Held q i by_ ∷ filter f ds else filter f ds)) (λ e. filter_quiet f ds a) (λ e. filter_quiet f ds a)
filter_quiet f (did.Released q i ∷ ds) a = bool_case (f (did.Released q i)) (λ t. IsQuiet (if t then did.Released q i ∷ filter f ds else filter f ds)) (λ e. filter_quiet f ds a) (λ e. filter_quiet f ds a)
filter_quiet f (did.Hardened c note ∷ ds) a = bool_case (f (did.Hardened c note)) (λ t. IsQuiet (if t then did.Hardened c note ∷ filter f ds else filter f ds)) (λ e. filter_quiet f ds a) (λ e. filter_quiet f ds a)
filter_quiet f (did.Prepared c u ∷ ds) a = bool_case (f (did.Prepared c u)) (λ t. IsQuiet (if t then did.Prepared c u ∷ filter f ds else filter f ds)) (λ e. filter_quiet f ds a) (λ e. filter_quiet f ds a)

-- a note that tells no such commit
abbrev pub IsNoteQuiet : Running → Type 0
IsNoteQuiet Up = Unit {0}
IsNoteQuiet (Down None starts) = Unit {0}
IsNoteQuiet (Down (Some noted) starts) = IsQuiet noted.delta

return_quiet : (r : Running) (choice : Return) (n : Node) → IsReturn (chances.Restart choice) r n.manager → IsNoteQuiet r → IsQuiet (node_restarted (restart_at r choice n.manager) n).delta
return_quiet Up choice n can none = refl
return_quiet (Down None starts) (Comes true started) n can none = absurd can.0.0
return_quiet (Down (Some noted) starts) (Comes true started) n can none = filter_quiet (lasts noted.written n.manager) noted.delta none
return_quiet (Down noted starts) (Comes false started) n can none = refl
return_quiet (Down noted starts) (Fails faults.Up in_write left) n can none = absurd can.0
return_quiet (Down noted starts) (Fails faults.NoMemory in_write left) n can none = absurd can.1
return_quiet (Down noted starts) (Fails faults.Disk true left) n can none = refl
return_quiet (Down noted starts) (Fails faults.Disk false left) n can none = refl
return_quiet (Down noted starts) (Fails faults.Cut true left) n can none = refl
return_quiet (Down noted starts) (Fails faults.Cut false left) n can none = refl
return_quiet (Down noted starts) (Fails (faults.BadLog place) true left) n can none = absurd can.0
return_quiet (Down noted starts) (Fails (faults.BadLog place) false left) n can none = refl

-- Turns of the handler

move_quiet : (from : List ℕ) (ident : Ident) (to : Dest) (bare : Bool) (p : Plain) → StepQuiet (move_row from ident to bare p)
move_quiet from ident to bare p = go (row_with (Some ident) (stored from p).rows)
  where
    on : (m : Message) (r : Result Route Reason) → StepQuiet (move_resolved from to bare r m p)
    on m (Err reason) = tt
    on m (Ok route) = tested_all StepQuiet (λ r. tt) (route_tests route (length (landing route m).message.body) p ++ when (move_full from (landing route m) p) reasons.ResourceProblem ∷ []) (Do tt (move_part from to bare (landing route m) ∷ [])) (refl, tt)

    go : (o : Option Message) → StepQuiet (move_found from to bare o p)
    go None = tt
    go (Some m) = on (bare_if bare m) (resolve p.definitions p.given.name to.queue to.qmgr)

moved_quiet : (q : List ℕ) (m : Message) (k : ℕ) (rule : Rule) (n : ℕ) (h : Handler) (p : Plain) (own : Own) (step : Step Reason (Unit {0})) → StepQuiet step → AllQuiet (handlers.moved q m k rule n h p own step).parts
moved_quiet q m k rule n h p own (Refuse reason) a = tt
moved_quiet q m k rule n h p own (Do reply parts) a = a

acted_quiet : (q : List ℕ) (m : Message) (k : ℕ) (rule : Rule) (action : Action) (n : ℕ) (h : Handler) (p : Plain) (own : Own) → AllQuiet (handlers.acted q m k rule action n h p own).parts
acted_quiet q m k rule actions.Discard n h p own = parts_removed whys.Discarded q (filter (has_ident m.ident) (stored q p).rows)
acted_quiet q m k rule actions.Ignore n h p own = tt
acted_quiet q m k rule actions.Retry n h p own = moved_quiet q m k rule n h p own (move_row q m.ident (handlers.retry_to m) true p) (move_quiet q m.ident (handlers.retry_to m) true p)
acted_quiet q m k rule (actions.Forward f) n h p own = moved_quiet q m k rule n h p own (move_row q m.ident (handlers.forward_to m f) (not f.header) p) (move_quiet q m.ident (handlers.forward_to m f) (not f.header) p)

ruled_quiet : (q : List ℕ) (m : Message) (k : ℕ) (o : Option Rule) (n : ℕ) (h : Handler) (p : Plain) (own : Own) → AllQuiet (handlers.ruled q m k o n h p own).parts
ruled_quiet q m k None n h p own = tt
ruled_quiet q m k (Some rule) n h p own = acted_quiet q m k rule rule.action n h p own

letter_quiet : (q : List ℕ) (m : Message) (o : Option ℕ) (n : ℕ) (h : Handler) (p : Plain) (own : Own) → AllQuiet (handlers.in_force q m o n h p own).parts
letter_quiet q m None n h p own = tt
letter_quiet q m (Some k) n h p own = ruled_quiet q m k (slice_get h.table.rules k) n h p own

abbrev AllQuietIn : Option Deed → Type 0
AllQuietIn None = Unit {0}
AllQuietIn (Some d) = AllQuiet d.parts

handler_quiet : (o : Option Handler) (n : Node) → AllQuietIn (handler_turn o n)
handler_quiet None n = tt
handler_quiet (Some h) n = on (handlers.is_readable (local_of (handlers.input_queue h.table n.manager) n.manager.definitions))
  where
    row : (q : List ℕ) (r : Option Row) → AllQuietIn (handlers.handler_row q h r n)
    row q None = tt
    row q (Some x) = letter_quiet q x.message (handlers.rule_in_force h.table x.message (handlers.tries_of q x.message.ident h)) (handlers.failed_of (handlers.tries_of q x.message.ident h)) h n.manager n.own

    on : (b : Bool) → AllQuietIn (handlers.handler_on b (handlers.input_queue h.table n.manager) h n)
    on false = tt
    on true = row (handlers.input_queue h.table n.manager) (handlers.next_letter (handlers.input_queue h.table n.manager) h n.manager)

turn_deed_quiet : (stamp : ℕ) (actor : Actor) (seen : Seen) (n : Node) → n.own.ends ≡ [] → AllQuietIn (turn_up stamp actor seen n)
turn_deed_quiet stamp (actors.Handler number) seen n e = handler_quiet (handler_in number n.own.handlers) n
turn_deed_quiet stamp (actors.Sender k) seen n e = subst AllQuietIn (sym (turn_none stamp (actors.Sender k) seen n e (λ j z. cc))) tt
turn_deed_quiet stamp (actors.Receiver k) seen n e = subst AllQuietIn (sym (turn_none stamp (actors.Receiver k) seen n e (λ j z. cc))) tt
turn_deed_quiet stamp (actors.Script k) seen n e = tt
turn_deed_quiet stamp (actors.Monitor k) seen n e = tt
turn_deed_quiet stamp actors.Operator seen n e = tt
turn_deed_quiet stamp actors.Clock seen n e = tt

up_quiet : (r : Running) (d : Option Deed) (choice : Choice) (n : Node) → AllQuietIn d → IsQuiet (done_or (where_up r d) choice n).delta
up_quiet Up None choice n a = refl
up_quiet Up (Some d) choice n a = done_quiet d choice n a
up_quiet (Down noted starts) None choice n a = refl
up_quiet (Down noted starts) (Some d) choice n a = refl

-- the event of a call that is a manager's own
pub own_quiet : (n : Node) (stamp : ℕ) (actor : Actor) (call : Call) (chance : Chance) (seen : Seen) → IsOwnCall actor call → IsEvent stamp actor call chance seen n → IsOwn chance → IsQuiet (event stamp actor call chance seen n).delta
own_quiet n stamp actor (calls.Mqconn qmgr appl) (chances.Call choice) seen is can own = done_quiet (mqi_deed replies.Connected n.own (mqconn qmgr appl n.manager)) choice n (mqi_quiet replies.Connected n.own (mqconn qmgr appl n.manager) (conn_quiet qmgr appl n.manager))
own_quiet n stamp actor (calls.Mqdisc hc) (chances.Call choice) seen is can own = done_quiet (ended_deed replies.Ended n.own (mqdisc hc n.manager)) choice n (ended_quiet replies.Ended n.own (mqdisc hc n.manager) (disc_quiet hc n.manager))
own_quiet n stamp actor (calls.Mqopen hc name qmgr how) (chances.Call choice) seen is can own = done_quiet (mqi_deed replies.Opened n.own (mqopen hc name qmgr how n.manager)) choice n (mqi_quiet replies.Opened n.own (mqopen hc name qmgr how n.manager) (open_quiet hc name qmgr how n.manager))
own_quiet n stamp actor (calls.Mqclose hc ho) (chances.Call choice) seen is can own = done_quiet (ended_deed replies.Ended n.own (mqclose hc ho n.manager)) choice n (ended_quiet replies.Ended n.own (mqclose hc ho n.manager) (close_quiet hc ho n.manager))
own_quiet n stamp actor (calls.Mqput hc ho md body sync) (chances.Call choice) seen is can own = done_quiet (mqi_deed replies.Put n.own (mqput hc ho md body sync n.manager)) choice n (mqi_quiet replies.Put n.own (mqput hc ho md body sync n.manager) (put_quiet hc ho md body sync n.manager))
own_quiet n stamp actor (calls.Mqput1 hc name qmgr md body sync) (chances.Call choice) seen is can own = done_quiet (mqi_deed replies.Put n.own (mqput1 hc name qmgr md body sync n.manager)) choice n (mqi_quiet replies.Put n.own (mqput1 hc name qmgr md body sync n.manager) (put1_quiet hc name qmgr md body sync n.manager))
own_quiet n stamp actor (calls.Mqget hc ho get until) (chances.Call choice) seen is can own = got_quiet n.own (mqget hc ho get until n.manager) choice n (get_quiet hc ho get until n.manager)
own_quiet n stamp actor (calls.Mqcmit hc) (chances.Call choice) seen is can own = done_quiet (ended_deed replies.Ended n.own (mqcmit hc n.manager)) choice n (ended_quiet replies.Ended n.own (mqcmit hc n.manager) (commit_quiet hc n.manager))
own_quiet n stamp actor (calls.Mqback hc) (chances.Call choice) seen is can own = done_quiet (ended_deed replies.Ended n.own (mqback hc n.manager)) choice n (ended_quiet replies.Ended n.own (mqback hc n.manager) (back_quiet hc n.manager))
own_quiet n stamp actor (calls.Act (acts.Obey (lines.Objects c))) (chances.Call choice) seen is can own = done_quiet (command_deed n.own (command c n.manager)) choice n (obeyed_quiet n.own (command c n.manager) (command_quiet c n.manager))
own_quiet n stamp actor (calls.Act (acts.Obey (lines.Operate op))) (chances.Call choice) seen is can own = absurd is
own_quiet n stamp actor (calls.Act (acts.Obey (lines.ShowStatus name any_end))) (chances.Call choice) seen is can own = done_quiet (show_status name any_end n) choice n (status_parts name any_end n)
own_quiet n stamp actor calls.Trigger (chances.Call choice) seen is can own = due_quiet n.manager.running (first_due (locals_of n.manager.definitions) n.manager) choice n
own_quiet n stamp actor (calls.Act acts.Crash) chance seen is can own = absurd is
own_quiet n stamp actor (calls.Act acts.Restart) chance seen is can own = absurd is
own_quiet n stamp (actors.Handler number) calls.Turn (chances.Call choice) seen is can own = up_quiet n.manager.running (turn_up stamp (actors.Handler number) seen n) choice n (handler_quiet (handler_in number n.own.handlers) n)
own_quiet n stamp (actors.Sender k) calls.Turn (chances.Call choice) seen is can own = absurd is
own_quiet n stamp (actors.Receiver k) calls.Turn (chances.Call choice) seen is can own = absurd is
own_quiet n stamp actor calls.Turn (chances.Call choice) seen is can own = up_quiet n.manager.running None choice n tt
own_quiet n stamp actor calls.Timeout chance seen is can own = absurd is
own_quiet n stamp actor call chance seen is can own = refl

-- of any, where there are no ends
pub event_quiet : (n : Node) (stamp : ℕ) (actor : Actor) (call : Call) (chance : Chance) (seen : Seen) → n.own.ends ≡ [] → IsEvent stamp actor call chance seen n → IsOwn chance → IsNoteQuiet n.manager.running → IsQuiet (event stamp actor call chance seen n).delta
event_quiet n stamp actor (calls.Act (acts.Obey (lines.Operate op))) (chances.Call choice) seen e can own none = let d = operated_is op n e in subst (λ x. IsQuiet (done x choice n).delta) (sym d.1) (done_quiet (told (replies.Acted (acted.Op d.0)) n.own) choice n tt)
event_quiet n stamp actor (calls.Act acts.Crash) chance seen e can own none = stop_quiet n.manager.running n
event_quiet n stamp actor (calls.Act acts.Restart) (chances.Call choice) seen e can own none = absurd can
event_quiet n stamp actor (calls.Act acts.Restart) (chances.Restart choice) seen e can own none = return_quiet n.manager.running choice n can none
event_quiet n stamp actor (calls.Act acts.Restart) (chances.Foreign image length left) seen e can own none = absurd own
event_quiet n stamp actor calls.Turn (chances.Call choice) seen e can own none = up_quiet n.manager.running (turn_up stamp actor seen n) choice n (turn_deed_quiet stamp actor seen n e)
event_quiet n stamp actor calls.Turn (chances.Restart choice) seen e can own none = refl
event_quiet n stamp actor calls.Turn (chances.Foreign image length left) seen e can own none = refl
event_quiet n stamp actor calls.Timeout chance seen e can own none = absurd (no_deed n.manager.running (timeout_by actor n) chance n (timeout_none actor n e) can)
event_quiet n stamp actor (calls.Act (acts.Obey c)) (chances.Restart choice) seen e can own none = refl
event_quiet n stamp actor (calls.Act (acts.Obey c)) (chances.Foreign image length left) seen e can own none = refl
event_quiet n stamp actor call chance seen e can own none = own_quiet n stamp actor call chance seen tt can own
