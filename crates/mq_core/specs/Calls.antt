-- What the parts of a call answer: where no refusal applies, what the call then is.
use Rattle.std.specs.Prelude.{◌≡◌, ℕ, Bool, true, List, [], ◌∷◌, Some, Result, Ok, Err, IsSome, IfSome}
use Rattle.mq_calls.specs.Words.{Reason, Message, Route, Plain, Step, Refuse, Do, connection_at, handle_at, is_up}
use Rattle.mq_calls.specs.declared.answers.Answer.{Answer}
use Rattle.mq_calls.specs.declared.answers.Sent.{Sent}
use Rattle.mq_calls.specs.declared.answers.Hconn.{Hconn}
use Rattle.mq_calls.specs.declared.answers.Hobj.{Hobj}
use Rattle.mq_calls.specs.declared.answers.Open.{Open}
use Rattle.mq_calls.specs.declared.state.Connection.{Connection}
use Rattle.mq_spec_manager.specs.Words.{connected, for_connection, live_or, open_step, mqopen, close_up, mqclose, put_part, sent_answer}
use Rattle.mq_core.specs.Writes.{now_part}

-- the connection check leads to this connection
pub record IsReached (hc : Hconn) (p : Plain) (c : Connection) : Type 0 where
  pub connected : connected hc p ≡ Ok c
  pub up : is_up p.running ≡ true
  pub live : connection_at hc.number p.connections ≡ Some c

abbrev pub Reaches : Hconn → Plain → Result Connection Reason → Type 0
Reaches hc p (Ok c) = IsReached hc p c
Reaches hc p (Err reason) = connected hc p ≡ Err reason

-- a call of the connection of a number
abbrev pub at_number : {T : Type 0} → ℕ → Plain → (Connection → Step Reason T) → Step Reason T
at_number number p call = for_connection (live_or (connection_at number p.connections)) call

-- the connection check passes, and the call goes on by the connection's number
pub record CanGo (hc : Hconn) (p : Plain) : Type 0 where
  pub same : connected hc p ≡ live_or (connection_at hc.number p.connections)
  pub up : is_up p.running ≡ true
  pub live : IsSome (connection_at hc.number p.connections)

abbrev pub Goes : Hconn → Plain → Result (Unit {0}) Reason → Type 0
Goes hc p (Ok _) = CanGo hc p
Goes hc p (Err reason) = connected hc p ≡ Err reason

-- MQOPEN: a route is found, and no refusal applies
abbrev pub open_at : ℕ → Open → Route → Plain → Step Reason (Answer Hobj)
open_at number how route p = at_number number p (λ c. open_step c how route)

pub record CanOpen (hc : Hconn) (name qmgr : List ℕ) (how : Open) (p : Plain) (route : Route) : Type 0 where
  pub step : mqopen hc name qmgr how p ≡ open_at hc.number how route p
  pub up : is_up p.running ≡ true
  pub live : IsSome (connection_at hc.number p.connections)

abbrev pub Opens : Hconn → List ℕ → List ℕ → Open → Plain → Result Route Reason → Type 0
Opens hc name qmgr how p (Ok route) = CanOpen hc name qmgr how p route
Opens hc name qmgr how p (Err reason) = mqopen hc name qmgr how p ≡ Refuse reason

-- MQCLOSE: the connection has the handle
abbrev pub HasHandle : Hobj → Connection → Type 0
HasHandle ho c = IsSome (handle_at ho.number c.handles)

abbrev pub close_at : ℕ → Hobj → Plain → Step Reason (Answer (Unit {0}))
close_at number ho p = at_number number p (close_up ho)

pub record CanClose (hc : Hconn) (ho : Hobj) (p : Plain) : Type 0 where
  pub step : mqclose hc ho p ≡ close_at hc.number ho p
  pub up : is_up p.running ≡ true
  pub live : IfSome (connection_at hc.number p.connections) (HasHandle ho)
  pub there : IsSome (connection_at hc.number p.connections)

abbrev pub Closes : Hconn → Hobj → Plain → Result (Unit {0}) Reason → Type 0
Closes hc ho p (Ok _) = CanClose hc ho p
Closes hc ho p (Err reason) = mqclose hc ho p ≡ Refuse reason

-- a put outside units of a message that is there
abbrev pub now_step : Bool → List ℕ → Message → Step Reason (Answer Sent)
now_step high queue m = Do (sent_answer high m) (now_part queue m ∷ [])

-- a put in the unit of a connection
abbrev pub unit_call : Bool → List ℕ → Message → Connection → Step Reason (Answer Sent)
unit_call high queue m c = Do (sent_answer high m) (put_part true c queue m ∷ [])

abbrev pub unit_step : ℕ → Bool → List ℕ → Message → Plain → Step Reason (Answer Sent)
unit_step number high queue m p = at_number number p (unit_call high queue m)
