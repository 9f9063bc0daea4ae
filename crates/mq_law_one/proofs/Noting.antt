-- Calls that write nothing leave no note.
use Rattle.std.proofs.Common.{ℕ, ◌≡◌, Bool, true, false, List, [], ◌∷◌, refl}
use Rattle.std.specs.Prelude.{Option, Some, None, ◌+◌}
use Rattle.mq_codes.specs.declared.reason.Reason.{Reason}
use Rattle.mq_objects.specs.declared.object.LocalQueue.{LocalQueue}
use Rattle.mq_objects.specs.declared.object.Process.{Process}
use Rattle.mq_objects.specs.Names.{is_transmission}
use Rattle.mq_resolve.specs.declared.route.Route.{Route}
use Rattle.mq_resolve.specs.Resolved.{resolve}
use Rattle.mq_calls.specs.declared.answers.Answer.TheVariants as answers
use Rattle.mq_calls.specs.declared.answers.Appl.{Appl}
use Rattle.mq_calls.specs.declared.answers.Hconn.{Hconn}
use Rattle.mq_calls.specs.declared.answers.Hobj.{Hobj}
use Rattle.mq_calls.specs.declared.answers.Open.{Open}
use Rattle.mq_calls.specs.declared.state.Connection.{Connection}
use Rattle.mq_history.specs.declared.calls.Call.{Call}
use Rattle.mq_history.specs.declared.calls.Call.TheVariants as calls
use Rattle.mq_calls.specs.State.{Plain}
use Rattle.mq_calls.specs.State.Change.{Connect, CloseHandle, OpenHandle}
use Rattle.mq_calls.specs.Reads.{handle_at}
use Rattle.mq_calls.specs.Steps.{Step, Part, silent, going_on, none_of}
use Rattle.mq_calls.specs.Steps.Step.{Do}
use Rattle.mq_spec_manager.specs.Handles.{connected, conn_tests, close_up, close_handle, option_tests, open_tests, open_step, new_connection, new_handle, new_hconn, mqconn, mqopen, mqclose}
use Rattle.mq_spec_manager.specs.Units.{mqback, backout_part}
use Rattle.mq_spec_manager.specs.Triggers.{Never, serve_by, serve_into, put_trigger, takes_it}
use Rattle.mq_law_manager.proofs.ShortSteps.{tested_all, going_all, live_all, open_all}
use Rattle.mq_law_found.specs.Finds.{PartNotes, StepNotes}
use Rattle.mq_law_found.proofs.Finding.{one_noted}

unforced : (m : ℕ) (call : Call) (moment : ℕ) (p : Plain) (part : Part) → part.forced ≡ None → PartNotes m call moment p part
unforced m call moment p part none r e chance by_ ds forced = absurd cc

pub conn_noted : (m : ℕ) (qmgr : List ℕ) (appl : Appl) (p : Plain) → StepNotes m (calls.Mqconn qmgr appl) p (mqconn qmgr appl p)
conn_noted m qmgr appl p =
    let part : Part = silent (Connect (new_connection appl p) ∷ []) in
    tested_all (StepNotes m (calls.Mqconn qmgr appl) p) (λ r. tt) (conn_tests qmgr p) (Do (answers.Ok (new_hconn p)) (part ∷ []))
    (one_noted Reason m (calls.Mqconn qmgr appl) p (answers.Ok (new_hconn p)) part (unforced m (calls.Mqconn qmgr appl) p.moment p part refl))

pub open_noted : (m : ℕ) (hc : Hconn) (name qmgr : List ℕ) (how : Open) (p : Plain) → StepNotes m (calls.Mqopen hc name qmgr how) p (mqopen hc name qmgr how p)
open_noted m hc name qmgr how p =
    let P : Step Reason _ → Type 0 = StepNotes m (calls.Mqopen hc name qmgr how) p in
    going_all P (λ r. tt) (connected hc p) (λ c. going_on (none_of (option_tests how)) (λ chosen. going_on (resolve p.definitions p.given.name name qmgr) (λ route. going_on (none_of (open_tests c how route p)) (λ fits. open_step c how route)))) (λ c.
    going_all P (λ r. tt) (none_of (option_tests how)) (λ chosen. going_on (resolve p.definitions p.given.name name qmgr) (λ route. going_on (none_of (open_tests c how route p)) (λ fits. open_step c how route))) (λ x.
    going_all P (λ r. tt) (resolve p.definitions p.given.name name qmgr) (λ route. going_on (none_of (open_tests c how route p)) (λ fits. open_step c how route)) (λ route.
    going_all P (λ r. tt) (none_of (open_tests c how route p)) (λ fits. open_step c how route) (λ y.
    one_noted Reason m (calls.Mqopen hc name qmgr how) p (answers.Ok (opened c)) (part c route) (unforced m (calls.Mqopen hc name qmgr how) p.moment p (part c route) refl)))))
  where
    opened : Connection → Hobj
    opened c = record { number = c.last_handle + 1 }

    part : Connection → Route → Part
    part c route = silent (OpenHandle c.number (new_handle how route c) ∷ [])

pub close_noted : (m : ℕ) (hc : Hconn) (ho : Hobj) (p : Plain) → StepNotes m (calls.Mqclose hc ho) p (mqclose hc ho p)
close_noted m hc ho p = live_all (StepNotes m (calls.Mqclose hc ho) p) (λ r. tt) (connected hc p) (close_up ho) (λ c. open_all (StepNotes m (calls.Mqclose hc ho) p) (λ r. tt) (handle_at ho.number c.handles) (close_handle c) (λ h.
    one_noted Reason m (calls.Mqclose hc ho) p (answers.Ok (tt {0})) (silent (CloseHandle c.number h.number ∷ [])) (unforced m (calls.Mqclose hc ho) p.moment p (silent (CloseHandle c.number h.number ∷ [])) refl)))

pub back_noted : (m : ℕ) (hc : Hconn) (p : Plain) → StepNotes m (calls.Mqback hc) p (mqback hc p)
back_noted m hc p = live_all (StepNotes m (calls.Mqback hc) p) (λ r. tt) (connected hc p) (λ c. Do (answers.Ok (tt {0})) (backout_part c ∷ [])) (λ c.
    one_noted Reason m (calls.Mqback hc) p (answers.Ok (tt {0})) (backout_part c) (unforced m (calls.Mqback hc) p.moment p (backout_part c) refl))

served_unforced : (q : LocalQueue) (o : Option Process) (i : Option LocalQueue) (p : Plain) → (serve_by q o i p).forced ≡ None
served_unforced q None i p = refl
served_unforced q (Some process) None p = refl
served_unforced q (Some process) (Some i) p = usage (is_transmission i.usage)
  where
    into : (o : Option Reason) → (put_trigger o q process i p).forced ≡ None
    into None = refl
    into (Some reason) = refl

    usage : (b : Bool) → (serve_into b q process i p).forced ≡ None
    usage true = refl
    usage false = into (takes_it i p)

pub serve_noted : (m : ℕ) (q : LocalQueue) (o : Option Process) (i : Option LocalQueue) (p : Plain) → StepNotes {F = Never} m calls.Trigger p (Do true (serve_by q o i p ∷ []))
serve_noted m q o i p = one_noted Never m calls.Trigger p true (serve_by q o i p) (unforced m calls.Trigger p.moment p (serve_by q o i p) (served_unforced q o i p))
