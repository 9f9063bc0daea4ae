-- MQOPEN, MQGET and commands on objects: all their changes are a call's, and so is what is common.
use Rattle.std.proofs.Common.{ℕ, ◌≡◌, Bool, true, false, List, [], ◌∷◌, refl, ap}
use Rattle.std.specs.Prelude.{Option, Some, None, Result, Ok, Err, ◌&&◌, if◌then◌else◌, not}
use Rattle.mq_codes.specs.declared.reason.Reason.{Reason}
use Rattle.mq_queue.specs.declared.row.Row.{Row}
use Rattle.mq_objects.specs.declared.object.Definitions.{Definitions}
use Rattle.mq_resolve.specs.declared.route.Route.{Route}
use Rattle.mq_resolve.specs.Resolved.{resolve}
use Rattle.mq_spec_manager.specs.from_sc_apply.{Plan}
use Rattle.mq_spec_manager.specs.from_sc_apply.PlanVariants as plans
use Rattle.mq_calls.specs.declared.commands.ScRefusal.{ScRefusal}
use Rattle.mq_calls.specs.declared.answers.Answer.{Answer}
use Rattle.mq_calls.specs.declared.answers.Hconn.{Hconn}
use Rattle.mq_calls.specs.declared.answers.Hobj.{Hobj}
use Rattle.mq_calls.specs.declared.answers.Open.{Open}
use Rattle.mq_calls.specs.declared.answers.Get.{Get}
use Rattle.mq_calls.specs.declared.state.Handle.{Handle}
use Rattle.mq_calls.specs.declared.state.Connection.{Connection}
use Rattle.mq_calls.specs.State.{Plain, Change}
use Rattle.mq_calls.specs.State.Change.{SetCursor, AddBatch, DropBatch, ForgetAll, Hold, Seize, SetReceiver, SetSender, Undoubt, Unseize}
use Rattle.mq_calls.specs.Reads.{handle_at, is_up}
use Rattle.mq_calls.specs.Steps.{◌>>=◌, none_of, Step, Part, refusal, silent, when}
use Rattle.mq_spec_manager.specs.Handles.{connected, mqopen, open_tests, open_step, option_tests}
use Rattle.mq_spec_manager.specs.Put.{queue_at}
use Rattle.mq_spec_manager.specs.Get.{mqget, get_up, get_handle, get_scanned, get_found, with_row, without_row, found_part, taking_part, expired_parts, is_destructive, scanned, is_left, is_waiting, is_under, room_tests, get_tests}
use Rattle.mq_calls.specs.declared.deltas.Why.TheVariants as whys
use Rattle.mq_spec_manager.specs.Commands.{planned_step, follows, command, uses_of}
use Rattle.mq_law_node.specs.Quiet.{all_call, parts_call, step_call, is_call}
use Rattle.mq_law_node.proofs.Named.{bool_case}
use Rattle.mq_calls.specs.declared.commands.ScRefusal.TheVariants as refusals
use Rattle.mq_objects.specs.declared.command.Command.{Command}
use Rattle.mq_spec_manager.specs.from_sc_apply.Commands.{plan}
use Rattle.mq_law_seized.specs.Each.{IsCommon, is_common}
use Rattle.mq_law_seized.proofs.CommonCalls.{follows_common, removal_common}
use Rattle.mq_law_seized.proofs.Each.{all_weaker, parts_behind, parts_weaker, step_weaker}
use Rattle.mq_law_seized.proofs.from_law_manager.ShortSteps.{going_all, live_all, open_all, tested_all}

-- what is common is a call's
pub common_call : (c : Change) → is_common c ≡ true → is_call c ≡ true
common_call (Hold which by) e = absurd cc
common_call (SetSender channel d) e = absurd cc
common_call (SetReceiver channel d) e = absurd cc
common_call (Undoubt ident) e = absurd cc
common_call (Seize s) e = absurd cc
common_call (Unseize channel) e = absurd cc
common_call (AddBatch b) e = absurd cc
common_call (DropBatch channel) e = absurd cc
common_call ForgetAll e = absurd cc
common_call c e = refl

pub step_common : {F T : Type 0} (s : Step F T) → IsCommon s → step_call s ≡ true
step_common s e = step_weaker is_common is_call common_call s e

abbrev IsCalls : {F T : Type 0} → Step F T → Type 0
IsCalls s = step_call s ≡ true

-- MQOPEN
abbrev routed : Connection → Open → Plain → Route → Step Reason (Answer Hobj)
routed c how p route = none_of (open_tests c how route p) >>= (λ fits. open_step c how route)

abbrev asked : List ℕ → List ℕ → Open → Plain → Connection → Step Reason (Answer Hobj)
asked name qmgr how p c = none_of (option_tests how) >>= (λ chosen. resolve p.definitions p.given.name name qmgr >>= routed c how p)

pub mqopen_call : (hc : Hconn) (name qmgr : List ℕ) (how : Open) (p : Plain) → step_call (mqopen hc name qmgr how p) ≡ true
mqopen_call hc name qmgr how p = going_all IsCalls (λ r. refl) (connected hc p) (asked name qmgr how p)
    (λ c. going_all IsCalls (λ r. refl) (none_of (option_tests how)) (λ chosen. resolve p.definitions p.given.name name qmgr >>= routed c how p)
    (λ chosen. going_all IsCalls (λ r. refl) (resolve p.definitions p.given.name name qmgr) (routed c how p)
    (λ route. going_all IsCalls (λ r. refl) (none_of (open_tests c how route p)) (λ fits. open_step c how route) (λ fits. refl))))

-- MQGET
taking_call : (sync : Bool) (c : Connection) (queue : List ℕ) (row : Row) → all_call (taking_part sync c queue row).changes ≡ true
taking_call true c queue row = refl
taking_call false c queue row = refl

found_call : (get : Get) (c : Connection) (h : Handle) (queue : List ℕ) (row : Row) → all_call (found_part get c h queue row).changes ≡ true
found_call get c h queue row = bool_case (is_destructive get.take) (λ b. all_call (if b then taking_part get.sync c queue row else silent (SetCursor c.number h.number row.place ∷ [])).changes ≡ true) (λ e. taking_call get.sync c queue row) (λ e. refl)

with_row_call : (cut : Bool) (get : Get) (c : Connection) (h : Handle) (queue : List ℕ) (row : Row) (before : List Part) → parts_call before ≡ true → step_call (with_row cut get c h queue row before) ≡ true
with_row_call true get c h queue row before q = q
with_row_call false get c h queue row before q = parts_behind is_call before (found_part get c h queue row ∷ []) q (ap (λ (b : Bool). b && true) (found_call get c h queue row))

without_row_call : (under waiting : Bool) (before : List Part) → parts_call before ≡ true → step_call (without_row under waiting before) ≡ true
without_row_call true waiting before q = q
without_row_call false true before q = refl
without_row_call false false before q = q

get_found_call : (get : Get) (until : Option ℕ) (p : Plain) (c : Connection) (h : Handle) (before : List Part) (row : Option Row) → parts_call before ≡ true → step_call (get_found get until p c h before row) ≡ true
get_found_call get until p c h before None q = without_row_call (is_under get.take) (is_waiting until p) before q
get_found_call get until p c h before (Some row) q = with_row_call (is_left get row.message) get c h (queue_at h.leads) row before q

get_handle_call : (get : Get) (until : Option ℕ) (p : Plain) (c : Connection) (h : Handle) → step_call (get_handle get until p c h) ≡ true
get_handle_call get until p c h = tested_all IsCalls (λ r. refl) (get_tests get p c h) (get_scanned get until p c h (scanned get h p))
    (tested_all IsCalls (λ r. refl) (room_tests get c (scanned get h p) p) (get_found get until p c h (expired_parts (queue_at h.leads) (scanned get h p).expired) (scanned get h p).found)
    (get_found_call get until p c h (expired_parts (queue_at h.leads) (scanned get h p).expired) (scanned get h p).found (parts_weaker is_common is_call common_call (expired_parts (queue_at h.leads) (scanned get h p).expired) (removal_common whys.Expired (queue_at h.leads) (scanned get h p).expired))))

pub mqget_call : (hc : Hconn) (ho : Hobj) (get : Get) (until : Option ℕ) (p : Plain) → step_call (mqget hc ho get until p) ≡ true
mqget_call hc ho get until p = live_all IsCalls (λ r. refl) (connected hc p) (get_up ho get until p) (λ c. open_all IsCalls (λ r. refl) (handle_at ho.number c.handles) (get_handle get until p c) (λ h. get_handle_call get until p c h))

-- a command on objects
planned_call : (r : Result Plan ScRefusal) (d : Definitions) → step_call (planned_step r d) ≡ true
planned_call (Ok (plans.Change planned)) d = ap (λ (b : Bool). b && true) (all_weaker is_common is_call common_call (follows planned.change planned d) (follows_common planned.change planned d))
planned_call (Ok (plans.Show shown)) d = refl
planned_call (Err refusal) d = refl

pub command_call : (c : Command) (p : Plain) → step_call (command c p) ≡ true
command_call c p = tested_all IsCalls (λ r. refl) (when (not (is_up p.running)) refusals.Down ∷ []) (planned_step (plan c p.given.name p.definitions (uses_of p)) p.definitions) (planned_call (plan c p.given.name p.definitions (uses_of p)) p.definitions)
