-- Connections and handles: the connection check, MQCONN, MQOPEN, MQCLOSE.
use Rattle.std.specs.Prelude.{ℕ, ◌+◌, ◌==◌, nat_le, Bool, false, not, ◌&&◌, ◌||◌, List, [], ◌∷◌, if◌then◌else◌, Option, Some, None, Result, Ok, Err, length}
use Rattle.std.specs.Str.{bytes_eq}
use Rattle.mq_sc_apply.specs.from_calls.Steps.{◌>>=◌}
use Rattle.mq_sc_apply.specs.from_calls.Words.{none_of, Reason, LocalQueue, RouteEnd, Route, Plain, is_up, connection_at, handle_at, is_input, is_open_for_input, exclusive_handle, read_by_sender, has_held, Step, Test, when, tested, silent, Refuse, Do, local_of, is_transmission}
use Rattle.mq_sc_apply.specs.from_calls.{Answer, Appl, Connection, Handle, Hconn, Hobj, Input, Open}
use Rattle.mq_sc_apply.specs.from_codes.ReasonVariants as reasons
use Rattle.mq_sc_apply.specs.from_resolve.RouteEndVariants.{Local, Via}
use Rattle.mq_sc_apply.specs.from_resolve.Resolved.{resolve}
use Rattle.mq_sc_apply.specs.from_calls.AnswerVariants as answers
use Rattle.mq_sc_apply.specs.from_calls.InputVariants as inputs
use Rattle.mq_sc_apply.specs.from_calls.State.Change.{Connect, OpenHandle, CloseHandle}

-- The connection check. None, or another manager's; or of this incarnation while it runs, and no such connection lives.
abbrev pub is_other : Hconn → Plain → Bool
is_other hc p = hc.manager == 0 || not (hc.manager == p.given.number)

abbrev pub is_present : Hconn → Plain → Bool
is_present hc p = is_up p.running && hc.incarnation == p.numbers.incarnation

abbrev pub live_or : Option Connection → Result Connection Reason
live_or None = Err reasons.ConnectionHandleError
live_or (Some c) = Ok c

abbrev pub connected : Hconn → Plain → Result Connection Reason
connected hc p =
    if is_other hc p then Err reasons.ConnectionHandleError
    else (if is_present hc p then live_or (connection_at hc.number p.connections) else Err reasons.ConnectionBroken)

-- a call of a live connection
abbrev pub for_connection : {T : Type 0} → Result Connection Reason → (Connection → Step Reason T) → Step Reason T
for_connection (Err reason) call = Refuse reason
for_connection (Ok c) call = call c

-- a call with an object handle of the connection
abbrev pub for_handle : {T : Type 0} → Option Handle → (Handle → Step Reason T) → Step Reason T
for_handle None call = Refuse reasons.ObjectHandleError
for_handle (Some h) call = call h

-- MQCONN
abbrev pub new_connection : Appl → Plain → Connection
new_connection appl p = record { number = p.numbers.connections + 1; appl = appl; handles = []; last_handle = 0; unit = [] }

abbrev pub new_hconn : Plain → Hconn
new_hconn p = record { manager = p.given.number; incarnation = p.numbers.incarnation; number = p.numbers.connections + 1 }

abbrev pub is_other_name : List ℕ → Plain → Bool
is_other_name [] p = false
is_other_name (b ∷ bs) p = not (bytes_eq (b ∷ bs) p.given.name)

abbrev pub conn_tests : List ℕ → Plain → List (Test Reason)
conn_tests qmgr p =
    when (is_other_name qmgr p) reasons.QueueManagerNameError
    ∷ when (not (is_up p.running)) reasons.QueueManagerNotAvailable
    ∷ []

abbrev pub mqconn : List ℕ → Appl → Plain → Step Reason (Answer Hconn)
mqconn qmgr appl p = tested (conn_tests qmgr p)
    (Do (answers.Ok (new_hconn p)) (silent (Connect (new_connection appl p) ∷ []) ∷ []))

-- What an MQOPEN asks for. Input or browse is asked of no local queue, or output of a transmission queue.
abbrev pub is_nothing : Open → Bool
is_nothing how = not (is_input how.input) && not how.browse && not how.output

abbrev pub reads : Open → Bool
reads how = is_input how.input || how.browse

abbrev pub is_transmission_queue : Option LocalQueue → Bool
is_transmission_queue None = false
is_transmission_queue (Some q) = is_transmission q.usage

abbrev pub is_unfit : Open → RouteEnd → Plain → Bool
is_unfit how (Local queue) p = how.output && is_transmission_queue (local_of queue p.definitions)
is_unfit how (Via xq rq rqm) p = reads how

-- input is asked while somebody reads the queue, one of the two alone
abbrev pub is_shut : Input → List ℕ → Plain → Bool
is_shut inputs.No name p = false
is_shut inputs.Shared name p = exclusive_handle name p
is_shut inputs.Exclusive name p = is_open_for_input name p

-- input is asked of a transmission queue that a sender has, or a held row of which is a unit's or an in-doubt batch's
abbrev pub is_sending : Input → List ℕ → Plain → Bool
is_sending input name p = is_input input && is_transmission_queue (local_of name p.definitions) && (read_by_sender name p || has_held name p)

abbrev pub is_in_use : Open → RouteEnd → Plain → Bool
is_in_use how (Local queue) p = is_shut how.input queue p || is_sending how.input queue p
is_in_use how (Via xq rq rqm) p = false

abbrev pub new_handle : Open → Route → Connection → Handle
new_handle how route c = record { number = c.last_handle + 1; how = how; leads = route.end; path = route.path; stale = false; cursor = None }

-- the refusals behind a route
abbrev pub open_tests : Connection → Open → Route → Plain → List (Test Reason)
open_tests c how route p =
    when (is_unfit how route.end p) reasons.OptionNotValidForType
    ∷ when (is_in_use how route.end p) reasons.ObjectInUse
    ∷ when (nat_le p.definitions.manager.max_handles (length c.handles)) reasons.HandleNotAvailable
    ∷ []

abbrev pub open_step : Connection → Open → Route → Step Reason (Answer Hobj)
open_step c how route = Do (answers.Ok (record { number = c.last_handle + 1 })) (silent (OpenHandle c.number (new_handle how route c) ∷ []) ∷ [])

-- MQOPEN
abbrev pub option_tests : Open → List (Test Reason)
option_tests how = when (is_nothing how) reasons.OptionsError ∷ []

abbrev pub mqopen : Hconn → List ℕ → List ℕ → Open → Plain → Step Reason (Answer Hobj)
mqopen hc name qmgr how p = do
  c ← connected hc p
  chosen ← none_of (option_tests how)
  route ← resolve p.definitions p.given.name name qmgr
  fits ← none_of (open_tests c how route p)
  open_step c how route

-- MQCLOSE: a stale handle closes too.
abbrev pub close_handle : Connection → Handle → Step Reason (Answer (Unit {0}))
close_handle c h = Do (answers.Ok tt) (silent (CloseHandle c.number h.number ∷ []) ∷ [])

abbrev pub close_up : Hobj → Connection → Step Reason (Answer (Unit {0}))
close_up ho c = for_handle (handle_at ho.number c.handles) (close_handle c)

abbrev pub mqclose : Hconn → Hobj → Plain → Step Reason (Answer (Unit {0}))
mqclose hc ho p = for_connection (connected hc p) (close_up ho)
