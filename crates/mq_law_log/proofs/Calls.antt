-- Whole calls: MQCMIT, MQDISC, MQPUT.
use Rattle.std.proofs.Common.{ℕ, ◌≡◌, Bool, true, false, List, [], ◌∷◌, refl}
use Rattle.std.specs.Prelude.{Option, Some, None, Result, Ok, Err, ◌==◌, not, if◌then◌else◌}
use Rattle.std.specs.List.{AllByRecursion}
use Rattle.mq_codes.specs.declared.reason.Reason.{Reason}
use Rattle.mq_calls.specs.declared.answers.Hconn.{Hconn}
use Rattle.mq_calls.specs.State.{Plain}
use Rattle.mq_calls.specs.declared.state.Connection.{Connection}
use Rattle.mq_calls.specs.declared.state.Handle.{Handle}
use Rattle.mq_calls.specs.State.Change.{Disconnect}
use Rattle.mq_calls.specs.Reads.{connection_at}
use Rattle.mq_spec_manager.specs.Handles.{connected, is_other, is_present, live_or, for_connection, for_handle}
use Rattle.mq_codes.specs.declared.reason.Reason.TheVariants as reasons
use Rattle.mq_calls.specs.declared.answers.Answer.TheVariants as answers
use Rattle.mq_calls.specs.Steps.Step.{Do}
use Rattle.mq_calls.specs.Steps.{Step, Test, when, refusal, refused_or, tested}
use Rattle.mq_message.specs.declared.message.Message.{Message}
use Rattle.mq_message.specs.declared.message.Md.{Md}
use Rattle.mq_resolve.specs.declared.route.Route.{Route}
use Rattle.mq_calls.specs.declared.answers.Hobj.{Hobj}
use Rattle.mq_calls.specs.Reads.{handle_at}
use Rattle.mq_spec_manager.specs.Put.{queue_at, put_part, put_tests, put_step, new_message, put_route, put_handle, put_up, handle_route, mqput}
use Rattle.mq_spec_log.specs.Applies.{fits}
use Rattle.mq_spec_manager.specs.Units.{mqcmit, mqdisc, commit_part}
use Rattle.mq_law_log.specs.Keeps.{StepKeeps, Keeps, IsNew}
use Rattle.mq_law_log.specs.Sound.{IsLogSound, IsUnit, LeadsWell}
use Rattle.mq_law_log.proofs.Rows.{bool_case}
use Rattle.mq_law_log.proofs.Harmless.{commit_harmless, put_harmless}

-- what holds of each connection holds of the one of a handle
abbrev OfConnection : (Connection → Type 0) → Result Connection Reason → Type 0
OfConnection P (Err reason) = Unit {0}
OfConnection P (Ok c) = P c

found_connection : (P : Connection → Type 0) (o : Option Connection) → ((c : Connection) → o ≡ Some c → P c) → OfConnection P (live_or o)
found_connection P None h = tt
found_connection P (Some c) h = h c refl

of_connected : (P : Connection → Type 0) (hc : Hconn) (p : Plain) → ((n : ℕ) (c : Connection) → connection_at n p.connections ≡ Some c → P c) → OfConnection P (connected hc p)
of_connected P hc p h = bool_case (is_other hc p) (λ b. OfConnection P (if b then Err reasons.ConnectionHandleError else (if is_present hc p then live_or (connection_at hc.number p.connections) else Err reasons.ConnectionBroken)))
    (λ e. tt)
    (λ e. bool_case (is_present hc p) (λ b. OfConnection P (if b then live_or (connection_at hc.number p.connections) else Err reasons.ConnectionBroken)) (λ z. found_connection P (connection_at hc.number p.connections) (h hc.number)) (λ z. tt))

commit_of : (r : Result Connection Reason) (p : Plain) → IsLogSound p → OfConnection (λ (c : Connection). IsUnit c.unit p) r → StepKeeps (for_connection r (λ c. Do (answers.Ok (tt {0})) (commit_part [] c ∷ []))) p
commit_of (Err reason) p s h = tt
commit_of (Ok c) p s h = ((commit_harmless [] c p (λ q. refl) s h).keeps, tt)

pub mqcmit_keeps : (hc : Hconn) (p : Plain) → IsLogSound p → StepKeeps (mqcmit hc p) p
mqcmit_keeps hc p s = commit_of (connected hc p) p s (of_connected (λ (c : Connection). IsUnit c.unit p) hc p s.units)

disconnect_of : (r : Result Connection Reason) (p : Plain) → IsLogSound p → OfConnection (λ (c : Connection). IsUnit c.unit p) r → StepKeeps (for_connection r (λ c. Do (answers.Ok (tt {0})) (commit_part (Disconnect c.number ∷ []) c ∷ []))) p
disconnect_of (Err reason) p s h = tt
disconnect_of (Ok c) p s h = ((commit_harmless (Disconnect c.number ∷ []) c p (λ q. refl) s h).keeps, tt)

pub mqdisc_keeps : (hc : Hconn) (p : Plain) → IsLogSound p → StepKeeps (mqdisc hc p) p
mqdisc_keeps hc p s = disconnect_of (connected hc p) p s (of_connected (λ (c : Connection). IsUnit c.unit p) hc p s.units)

abbrev OfHandle : Plain → Option Handle → Type 0
OfHandle p None = Unit {0}
OfHandle p (Some h) = LeadsWell h p

-- Refusals change nothing.
tested_keeps : {F T : Type 0} (ts : List (Test F)) (step : Step F T) (p : Plain) → StepKeeps step p → StepKeeps (tested ts step) p
tested_keeps {F} {T} ts step p h = by_refusal (refusal ts)
  where
    by_refusal : (r : Option F) → StepKeeps (refused_or r step) p
    by_refusal None = h
    by_refusal (Some reason) = tt

put_part_keeps : (sync : Bool) (c : Connection) (queue : List ℕ) (m : Message) (p : Plain) → IsLogSound p → fits queue m p.definitions ≡ true → IsNew m.ident p → Keeps (put_part sync c queue m) p
put_part_keeps true c queue m p s f n = refl
put_part_keeps false c queue m p s f n = (put_harmless c queue m p s f n).keeps

pub put_route_keeps : (c : Connection) (route : Route) (md : Md) (body : List ℕ) (sync : Bool) (p : Plain) → IsLogSound p → fits (queue_at route.end) (new_message c route md body p) p.definitions ≡ true
    → StepKeeps (put_route c route md body sync p) p
put_route_keeps c route md body sync p s f = tested_keeps (put_tests c route md body sync (new_message c route md body p) p) (put_step c route md sync (new_message c route md body p)) p
    (put_part_keeps sync c (queue_at route.end) (new_message c route md body p) p s f s.next, tt)

put_handle_keeps : (md : Md) (body : List ℕ) (sync : Bool) (p : Plain) (c : Connection) (h : Handle) → IsLogSound p → LeadsWell h p → StepKeeps (put_handle md body sync p c h) p
put_handle_keeps md body sync p c h s w = bool_case h.stale
    (λ b. h.stale ≡ b → StepKeeps (refused_or (if b then Some reasons.ObjectChanged else refusal (when (not h.how.output) reasons.NotOpenForOutput ∷ [])) (put_route c (handle_route h) md body sync p)) p)
    (λ y e. tt)
    (λ y e. bool_case h.how.output
    (λ b. h.how.output ≡ b → StepKeeps (refused_or (if not b then Some reasons.NotOpenForOutput else None) (put_route c (handle_route h) md body sync p)) p)
    (λ z o. put_route_keeps c (handle_route h) md body sync p s (w e o (new_message c (handle_route h) md body p) refl))
    (λ z o. tt) refl)
    refl

put_of_handle : (o : Option Handle) (md : Md) (body : List ℕ) (sync : Bool) (p : Plain) (c : Connection) → IsLogSound p → OfHandle p o → StepKeeps (for_handle o (put_handle md body sync p c)) p
put_of_handle None md body sync p c s w = tt
put_of_handle (Some h) md body sync p c s w = put_handle_keeps md body sync p c h s w

found_handle : (p : Plain) (n : ℕ) (hs : List Handle) → AllByRecursion (λ (h : Handle). LeadsWell h p) hs → OfHandle p (handle_at n hs)
found_handle p n [] w = tt
found_handle p n (h ∷ hs) w = bool_case (h.number == n) (λ b. OfHandle p (if b then Some h else handle_at n hs)) (λ e. w.0) (λ e. found_handle p n hs w.1)

put_of : (r : Result Connection Reason) (ho : Hobj) (md : Md) (body : List ℕ) (sync : Bool) (p : Plain) → IsLogSound p → OfConnection (λ (c : Connection). AllByRecursion (λ (h : Handle). LeadsWell h p) c.handles) r
    → StepKeeps (for_connection r (put_up ho md body sync p)) p
put_of (Err reason) ho md body sync p s w = tt
put_of (Ok c) ho md body sync p s w = put_of_handle (handle_at ho.number c.handles) md body sync p c s (found_handle p ho.number c.handles w)

pub mqput_keeps : (hc : Hconn) (ho : Hobj) (md : Md) (body : List ℕ) (sync : Bool) (p : Plain) → IsLogSound p → StepKeeps (mqput hc ho md body sync p) p
mqput_keeps hc ho md body sync p s = put_of (connected hc p) ho md body sync p s (of_connected (λ (c : Connection). AllByRecursion (λ (h : Handle). LeadsWell h p) c.handles) hc p s.handles)
