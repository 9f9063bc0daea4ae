-- A trigger turn: the first queue with a trigger due is served.
use Rattle.std.specs.Prelude.{ℕ, pos, nat_lt, Bool, true, false, List, [], ◌∷◌, if◌then◌else◌, Option, Some, None, codes}
use Rattle.mq_sc_apply.specs.from_calls.Words.{Reason, Ident, Message, LocalQueue, Process, Route, Plain, stored, is_up, Step, Part, refusal, say, silent, Do, local_of, locals_of, process_of, is_transmission}
use Rattle.mq_sc_apply.specs.from_resolve.RouteEndVariants.{Local}
use Rattle.mq_sc_apply.specs.from_resolve.PathStepVariants as steps
use Rattle.mq_sc_apply.specs.from_calls.DidVariants as did
use Rattle.mq_sc_apply.specs.from_calls.State.Change.{Place, CountIdent, Serve}
use Rattle.mq_heads.specs.Stamps.{put_date, put_time}
use Rattle.mq_heads.specs.Headers.{tm_bytes}
use Rattle.mq_spec_manager.specs.Heads.{tm_of, own_md}
use Rattle.mq_spec_manager.specs.Put.{next_ident, placing_tests}

-- there are no refusals of a trigger turn
pub data Never : Type 0 where

-- the first queue, in order of definition, with a trigger due
abbrev pub first_due : List LocalQueue → Plain → Option LocalQueue
first_due [] p = None
first_due (q ∷ qs) p = if nat_lt 0 (stored q.name p).due then Some q else first_due qs p

abbrev pub trigger_message : Ident → LocalQueue → Process → LocalQueue → ℕ → Message
trigger_message ident q process i moment = record {
  ident = ident;
  md = own_md ident (codes "MQTRIG  ") (pos i.default_priority) (pos 0) (put_date moment) (put_time moment);
  route = None;
  deadline = None;
  body = tm_bytes (tm_of q process);
}

-- the initiation queue takes the message, or the trigger is dropped
abbrev pub route_to : List ℕ → Route
route_to name = record { end = Local name; path = steps.Queue name ∷ [] }

abbrev pub takes_it : LocalQueue → Plain → Option Reason
takes_it i p = refusal (placing_tests (route_to i.name) 684 p)

abbrev pub put_trigger : Option Reason → LocalQueue → Process → LocalQueue → Plain → Part
put_trigger (Some reason) q process i p = silent (Serve q.name ∷ [])
put_trigger None q process i p = record {
  forced = None;
  changes = Serve q.name ∷ CountIdent ∷ Place i.name (trigger_message (next_ident p) q process i p.moment) ∷ [];
  delta = did.Placed i.name (next_ident p) None ∷ [];
}

-- where the process or the queue is gone, the trigger is dropped
abbrev pub serve_into : Bool → LocalQueue → Process → LocalQueue → Plain → Part
serve_into true q process i p = silent (Serve q.name ∷ [])
serve_into false q process i p = put_trigger (takes_it i p) q process i p

abbrev pub serve_by : LocalQueue → Option Process → Option LocalQueue → Plain → Part
serve_by q None i p = silent (Serve q.name ∷ [])
serve_by q (Some process) None p = silent (Serve q.name ∷ [])
serve_by q (Some process) (Some i) p = serve_into (is_transmission i.usage) q process i p

abbrev pub serve : Option LocalQueue → Plain → Step Never Bool
serve None p = say false
serve (Some q) p = Do true (serve_by q (process_of q.process p.definitions) (local_of q.initiation_queue p.definitions) p ∷ [])

-- none is due at a manager that is down
abbrev pub trigger_at : Bool → Plain → Step Never Bool
trigger_at false p = say false
trigger_at true p = serve (first_due (locals_of p.definitions) p) p

abbrev pub trigger_turn : Plain → Step Never Bool
trigger_turn p = trigger_at (is_up p.running) p
