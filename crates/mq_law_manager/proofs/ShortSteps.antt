-- Steps of one part at most: each call of a manager but a get, which tells of the expired rows first, and what holds of refusals and of
-- what goes on behind them.
use Rattle.std.proofs.Common.{ℕ, Bool, not, List, [], ◌∷◌}
use Rattle.std.specs.Prelude.{Option, Some, None, Result, Ok, Err}
use Rattle.mq_message.specs.declared.message.Md.{Md}
use Rattle.mq_codes.specs.declared.reason.Reason.{Reason}
use Rattle.mq_calls.specs.from_resolve.{Route}
use Rattle.mq_calls.specs.from_resolve.Resolved.{resolve}
use Rattle.mq_objects.specs.declared.command.Command.{Command}
use Rattle.mq_spec_manager.specs.from_sc_apply.{Plan}
use Rattle.mq_spec_manager.specs.from_sc_apply.PlanVariants as plans
use Rattle.mq_spec_manager.specs.from_sc_apply.Commands.{plan}
use Rattle.mq_calls.specs.declared.answers.Appl.{Appl}
use Rattle.mq_codes.specs.declared.reason.Reason.TheVariants as reasons
use Rattle.mq_calls.specs.declared.commands.ScRefusal.TheVariants as refusals
use Rattle.mq_calls.specs.declared.answers.Hconn.{Hconn}
use Rattle.mq_calls.specs.declared.answers.Hobj.{Hobj}
use Rattle.mq_calls.specs.declared.answers.Open.{Open}
use Rattle.mq_calls.specs.declared.commands.ScRefusal.{ScRefusal}
use Rattle.mq_calls.specs.declared.state.Connection.{Connection}
use Rattle.mq_calls.specs.declared.state.Handle.{Handle}
use Rattle.mq_calls.specs.State.{Plain}
use Rattle.mq_calls.specs.Reads.{is_up, handle_at}
use Rattle.mq_calls.specs.Steps.{none_of, when, Step, Part, Test, tested, refusal, refused_or, going_on}
use Rattle.mq_calls.specs.Steps.Step.{Refuse, Do}
use Rattle.mq_spec_manager.specs.Handles.{is_unfit, option_tests, open_tests, open_step, connected, for_connection, for_handle, mqconn, mqopen, mqclose, conn_tests, close_up, close_handle}
use Rattle.mq_spec_manager.specs.Put.{output_only, mqput, mqput1, put_up, put_handle, put_route, put_tests, put1_resolved, output_tests, handle_route, new_message}
use Rattle.mq_spec_manager.specs.Units.{mqcmit, mqback, mqdisc}
use Rattle.mq_spec_manager.specs.Commands.{command, planned_step, uses_of}

-- one part at most
abbrev pub IsShort : List Part → Type 0
IsShort [] = Unit {0}
IsShort (x ∷ []) = Unit {0}
IsShort (x ∷ y ∷ parts) = ⊥

abbrev pub StepIsShort : {F T : Type 0} → Step F T → Type 0
StepIsShort (Refuse reason) = Unit {0}
StepIsShort (Do reply parts) = IsShort parts

-- what holds of refusals and of what goes on behind them
pub tested_all : {F T : Type 0} (P : Step F T → Type 0) → ((r : F) → P (Refuse r)) → (ts : List (Test F)) (s : Step F T) → P s → P (tested ts s)
tested_all P no_ ts s k = at (refusal ts)
  where
    at : (o : Option _) → P (refused_or o s)
    at None = k
    at (Some reason) = no_ reason

pub going_all : {A F T : Type 0} (P : Step F T → Type 0) → ((r : F) → P (Refuse r)) → (r : Result A F) (f : A → Step F T) → ((x : A) → P (f x)) → P (going_on r f)
going_all P no_ (Ok x) f k = k x
going_all P no_ (Err e) f k = no_ e

pub live_all : {T : Type 0} (P : Step Reason T → Type 0) → ((r : Reason) → P (Refuse r)) → (r : Result Connection Reason) (f : Connection → Step Reason T) → ((c : Connection) → P (f c)) → P (for_connection r f)
live_all P no_ (Ok c) f k = k c
live_all P no_ (Err e) f k = no_ e

pub open_all : {T : Type 0} (P : Step Reason T → Type 0) → ((r : Reason) → P (Refuse r)) → (o : Option Handle) (f : Handle → Step Reason T) → ((h : Handle) → P (f h)) → P (for_handle o f)
open_all P no_ (Some h) f k = k h
open_all P no_ None f k = no_ _

pub conn_short : (qmgr : List ℕ) (appl : Appl) (p : Plain) → StepIsShort (mqconn qmgr appl p)
conn_short qmgr appl p = tested_all StepIsShort (λ r. tt) (conn_tests qmgr p) _ tt

pub open_short : (hc : Hconn) (name qmgr : List ℕ) (how : Open) (p : Plain) → StepIsShort (mqopen hc name qmgr how p)
open_short hc name qmgr how p = going_all StepIsShort (λ r. tt) (connected hc p) (λ c. going_on (none_of (option_tests how)) (λ chosen. going_on (resolve p.definitions p.given.name name qmgr) (λ route. going_on (none_of (open_tests c how route p)) (λ fits. open_step c how route)))) (λ c.
    going_all StepIsShort (λ r. tt) (none_of (option_tests how)) (λ chosen. going_on (resolve p.definitions p.given.name name qmgr) (λ route. going_on (none_of (open_tests c how route p)) (λ fits. open_step c how route))) (λ x.
    going_all StepIsShort (λ r. tt) (resolve p.definitions p.given.name name qmgr) (λ route. going_on (none_of (open_tests c how route p)) (λ fits. open_step c how route)) (λ route.
    going_all StepIsShort (λ r. tt) (none_of (open_tests c how route p)) (λ fits. open_step c how route) (λ y. tt))))

pub close_short : (hc : Hconn) (ho : Hobj) (p : Plain) → StepIsShort (mqclose hc ho p)
close_short hc ho p = live_all StepIsShort (λ r. tt) (connected hc p) (close_up ho) (λ c. open_all StepIsShort (λ r. tt) (handle_at ho.number c.handles) (close_handle c) (λ h. tt))

route_short : (c : Connection) (route : Route) (md : Md) (body : List ℕ) (sync : Bool) (p : Plain) → StepIsShort (put_route c route md body sync p)
route_short c route md body sync p = tested_all StepIsShort (λ r. tt) (put_tests c route md body sync (new_message c route md body p) p) _ tt

pub put_short : (hc : Hconn) (ho : Hobj) (md : Md) (body : List ℕ) (sync : Bool) (p : Plain) → StepIsShort (mqput hc ho md body sync p)
put_short hc ho md body sync p = live_all StepIsShort (λ r. tt) (connected hc p) (put_up ho md body sync p) (λ c. open_all StepIsShort (λ r. tt) (handle_at ho.number c.handles) (put_handle md body sync p c)
    (λ h. tested_all StepIsShort (λ r. tt) (output_tests h) _ (route_short c (handle_route h) md body sync p)))

pub put1_short : (hc : Hconn) (name qmgr : List ℕ) (md : Md) (body : List ℕ) (sync : Bool) (p : Plain) → StepIsShort (mqput1 hc name qmgr md body sync p)
put1_short hc name qmgr md body sync p = live_all StepIsShort (λ r. tt) (connected hc p) (put1_resolved (resolve p.definitions p.given.name name qmgr) md body sync p) (λ c. go c (resolve p.definitions p.given.name name qmgr))
  where
    go : (c : Connection) (r : Result Route Reason) → StepIsShort (put1_resolved r md body sync p c)
    go c (Err reason) = tt
    go c (Ok route) = tested_all StepIsShort (λ r. tt) (when (is_unfit output_only route.end p) reasons.OptionNotValidForType ∷ []) (put_route c route md body sync p) (route_short c route md body sync p)

pub commit_short : (hc : Hconn) (p : Plain) → StepIsShort (mqcmit hc p)
commit_short hc p = live_all StepIsShort (λ r. tt) (connected hc p) _ (λ c. tt)

pub back_short : (hc : Hconn) (p : Plain) → StepIsShort (mqback hc p)
back_short hc p = live_all StepIsShort (λ r. tt) (connected hc p) _ (λ c. tt)

pub disc_short : (hc : Hconn) (p : Plain) → StepIsShort (mqdisc hc p)
disc_short hc p = live_all StepIsShort (λ r. tt) (connected hc p) _ (λ c. tt)

pub command_short : (c : Command) (p : Plain) → StepIsShort (command c p)
command_short c p = tested_all StepIsShort (λ r. tt) (when (not (is_up p.running)) refusals.Down ∷ []) (planned_step (plan c p.given.name p.definitions (uses_of p)) p.definitions) (go (plan c p.given.name p.definitions (uses_of p)))
  where
    go : (r : Result Plan ScRefusal) → StepIsShort (planned_step r p.definitions)
    go (Ok (plans.Change planned)) = tt
    go (Ok (plans.Show shown)) = tt
    go (Err refusal) = tt
