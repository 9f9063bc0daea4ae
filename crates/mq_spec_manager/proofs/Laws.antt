-- What is kept: laws that go by the shape of a call, whatever its tests are.
use Rattle.std.specs.Prelude.{◌≡◌, ℕ, Bool, true, false, List, Option, Some, None, Result, Ok, Err, refl}
use Rattle.std.proofs.Common.{◌∙◌}
use Rattle.mq_sc_apply.specs.from_calls.Steps.{◌>>=◌}
use Rattle.mq_sc_apply.specs.from_calls.Words.{going_on, none_of, Md, Route, Reason, Message, Plain, Step, Test, refusal, refused_or, tested, next, logged, do_part, handle_at, apply, apply_all, place, try_if}
use Rattle.mq_sc_apply.specs.from_calls.{Answer, Connection, Handle, Hconn, Hobj, LogRecord, Open}
use Rattle.mq_sc_apply.specs.from_resolve.Resolved.{resolve}
use Rattle.mq_sc_apply.specs.from_calls.State.Change.{CountIdent}
use Rattle.mq_spec_manager.specs.Handles.{connected, for_connection, for_handle, mqopen, option_tests, open_tests, open_step}
use Rattle.mq_spec_manager.specs.Put.{mqput, output_tests, put_tests, put_step, put_up, put_handle, put_route, put_part, unit_record, placed, queue_at, new_message, handle_route}

-- a call that is refused keeps all; one that passes keeps what its own step keeps
kept_by : {F T : Type 0} (P : Plain → Type 0) (o : Option F) (s : Step F T) (p : Plain) → P p → P (next s p) → P (next (refused_or o s) p)
kept_by P None s p old new = new
kept_by P (Some reason) s p old new = old

pub kept : {F T : Type 0} (P : Plain → Type 0) (ts : List (Test F)) (s : Step F T) (p : Plain) → P p → P (next s p) → P (next (tested ts s) p)
kept P ts s p old new = kept_by P (refusal ts) s p old new

pub kept_on : {A F T : Type 0} (P : Plain → Type 0) (r : Result A F) (rest : A → Step F T) (p : Plain) → P p → ((x : A) → P (next (rest x) p)) → P (next (going_on r rest) p)
kept_on P (Err reason) rest p old new = old
kept_on P (Ok x) rest p old new = new x

pub kept_connection : {T : Type 0} (P : Plain → Type 0) (r : Result Connection Reason) (call : Connection → Step Reason T) (p : Plain) → P p → ((c : Connection) → P (next (call c) p)) → P (next (for_connection r call) p)
kept_connection P (Err reason) call p old new = old
kept_connection P (Ok c) call p old new = new c

pub kept_handle : {T : Type 0} (P : Plain → Type 0) (h : Option Handle) (call : Handle → Step Reason T) (p : Plain) → P p → ((h : Handle) → P (next (call h) p)) → P (next (for_handle h call) p)
kept_handle P None call p old new = old
kept_handle P (Some h) call p old new = new h

-- an open changes no queue
abbrev SameQueues : Plain → Plain → Type 0
SameQueues p q = q.queues ≡ p.queues

abbrev routed : Connection → Open → Plain → Route → Step Reason (Answer Hobj)
routed c how p route = none_of (open_tests c how route p) >>= (λ fits. open_step c how route)

abbrev asked : List ℕ → List ℕ → Open → Plain → Connection → Step Reason (Answer Hobj)
asked name qmgr how p c = none_of (option_tests how) >>= (λ chosen. resolve p.definitions p.given.name name qmgr >>= routed c how p)

pub open_keeps_queues : (hc : Hconn) (name qmgr : List ℕ) (how : Open) (p : Plain) → SameQueues p (next (mqopen hc name qmgr how p) p)
open_keeps_queues hc name qmgr how p = kept_on (SameQueues p) (connected hc p) (asked name qmgr how p) p refl
    (λ c. kept_on (SameQueues p) (none_of (option_tests how)) (λ chosen. resolve p.definitions p.given.name name qmgr >>= routed c how p) p refl
    (λ chosen. kept_on (SameQueues p) (resolve p.definitions p.given.name name qmgr) (routed c how p) p refl
    (λ route. kept_on (SameQueues p) (none_of (open_tests c how route p)) (λ fits. open_step c how route) p refl (λ fits. refl))))

-- a put changes no definition
abbrev SameDefinitions : Plain → Plain → Type 0
SameDefinitions p q = q.definitions ≡ p.definitions

tried : (b : Bool) (name : List ℕ) (p : Plain) → (try_if b name p).definitions ≡ p.definitions
tried true name p = refl
tried false name p = refl

-- a change that is none of the definitions' keeps them
pub placed_keeps : (name : List ℕ) (m : Message) (p : Plain) → (apply_all (placed name m) p).definitions ≡ p.definitions
placed_keeps name m p = tried _ name (place name m p)

logged_keeps : (r : Option LogRecord) (p : Plain) → (logged r p).definitions ≡ p.definitions
logged_keeps None p = refl
logged_keeps (Some r) p = refl

put_part_kept : (sync : Bool) (c : Connection) (name : List ℕ) (m : Message) (p : Plain) → (do_part (put_part sync c name m) p).definitions ≡ p.definitions
put_part_kept true c name m p = refl
put_part_kept false c name m p = placed_keeps name m (apply CountIdent (logged (unit_record name m) p)) ∙ logged_keeps (unit_record name m) p

put_kept : (sync : Bool) (c : Connection) (route : Route) (md : Md) (body : List ℕ) (p : Plain) → SameDefinitions p (next (put_route c route md body sync p) p)
put_kept sync c route md body p =
    kept (SameDefinitions p) (put_tests c route md body sync (new_message c route md body p) p) (put_step c route md sync (new_message c route md body p)) p refl
    (put_part_kept sync c (queue_at route.end) (new_message c route md body p) p)

pub put_keeps_definitions : (hc : Hconn) (ho : Hobj) (md : Md) (body : List ℕ) (sync : Bool) (p : Plain) → SameDefinitions p (next (mqput hc ho md body sync p) p)
put_keeps_definitions hc ho md body sync p =
    kept_connection (SameDefinitions p) (connected hc p) (put_up ho md body sync p) p refl
    (λ c. kept_handle (SameDefinitions p) (handle_at ho.number c.handles) (put_handle md body sync p c) p refl
    (λ h. kept (SameDefinitions p) (output_tests h) (put_route c (handle_route h) md body sync p) p refl (put_kept sync c (handle_route h) md body p)))
