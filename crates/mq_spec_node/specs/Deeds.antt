-- What an event of a node is: what its manager does, in parts; the reply; the frame that it offers; the messages that a
-- receiver's commit places; and the node's own state after it. And what the free choices make of it.
use Rattle.std.specs.Prelude.{ℕ, Bool, false, not, ◌&&◌, List, [], Option, Some, None, map, filter}
use Rattle.std.specs.List.{list_any}
use Rattle.std.specs.Str.{bytes_eq}
use Rattle.mq_spec_node.specs.Terms.{Reason, Ident, Message, same_ident, Frame, Answer, Choice, Runs, NoMemory, Stopped, Did, Reply, Plain, receiver_data, Step, Part, Possible, do_all, delta_of, delta_before, stopped_at, Refuse, Do}
use Rattle.mq_codes.specs.declared.reason.Reason.TheVariants as reasons
use Rattle.mq_history.specs.from_calls.AnswerVariants as answers
use Rattle.mq_history.specs.from_calls.DidVariants as did
use Rattle.mq_history.specs.declared.calls.Reply.TheVariants as replies
use Rattle.mq_receiver.specs.States as receivers
use Rattle.mq_sender.specs.States as senders
use Rattle.mq_spec_node.specs.Node.{Node, Own, ChannelEnd, Handler, Tried}
use Rattle.mq_spec_node.specs.Node.ChannelEnd.{Sends, Receives}

pub record Deed : Type 0 where
  pub wanting : Option Reply  -- what is answered where memory is wanting; none where the event then is none
  pub reply : Reply
  pub parts : List Part
  pub pushed : Option Frame
  pub received : List Message
  pub own : Own

-- an answer that changes nothing
abbrev pub told : Reply → Own → Deed
told reply own = record { wanting = None; reply = reply; parts = []; pushed = None; received = []; own = own }

abbrev pub parts_of : {F T : Type 0} → Step F T → List Part
parts_of (Refuse reason) = []
parts_of (Do reply parts) = parts

-- An MQI call. Want of memory is 2071, but of the calls that take none.
abbrev pub mqi_deed : {T : Type 0} → (Answer T → Reply) → Own → Step Reason (Answer T) → Deed
mqi_deed f own (Refuse reason) = told (f (answers.Failed reason)) own
mqi_deed f own (Do reply parts) =
    record { wanting = Some (f (answers.Failed reasons.StorageNotAvailable)); reply = f reply; parts = parts; pushed = None; received = []; own = own }

abbrev pub ended_deed : {T : Type 0} → (Answer T → Reply) → Own → Step Reason (Answer T) → Deed
ended_deed f own (Refuse reason) = told (f (answers.Failed reason)) own
ended_deed f own (Do reply parts) = record { wanting = None; reply = f reply; parts = parts; pushed = None; received = []; own = own }

-- A turn of a channel's end: what its manager does, the frame that it offers, and the end after it.
abbrev pub turned : List Part → Option Frame → Own → Deed
turned parts pushed own = record { wanting = None; reply = replies.Changed; parts = parts; pushed = pushed; received = []; own = own }

-- What a node forgets. A handler's tries of a row go with the row.
abbrev pub went : List ℕ → Ident → Did → Bool
went queue ident (did.Removed from other why) = bytes_eq queue from && same_ident ident other
went queue ident (did.Moved from other to target bare) = bytes_eq queue from && same_ident ident other
went queue ident _ = false

abbrev pub still_tried : List Did → Tried → Bool
still_tried delta t = not (list_any (went t.queue t.ident) delta)

abbrev pub forgotten_rows : List Did → Own → Own
forgotten_rows delta own = record own { handlers = map (λ (h : Handler). record h { tried = filter (still_tried delta) h.tried }) own.handlers }

-- A stop: the ends are inactive and unbound, and all tries are forgotten. A stopped write leaves them as they are, unseen,
-- as it leaves the rest, until a restart.
abbrev pub end_at_rest : ChannelEnd → ChannelEnd
end_at_rest (Sends e) = Sends (record e { machine = senders.halted e.machine })
end_at_rest (Receives e) = Receives (record e { machine = receivers.halted e.machine; kept = [] })

abbrev pub untried : Own → Own
untried own = record own { handlers = map (λ (h : Handler). record h { tried = [] }) own.handlers }

abbrev pub own_at_rest : Own → Own
own_at_rest own = untried (record own { ends = map end_at_rest own.ends })

abbrev pub node_of : Plain → Own → Node
node_of p own = record { manager = p; own = own }

-- A start: senders are inactive, receivers begin with what is hardened, and no row was tried.
abbrev pub end_begun : Plain → ChannelEnd → ChannelEnd
end_begun p (Sends e) = Sends (record e { machine = senders.halted e.machine })
end_begun p (Receives e) = Receives (record e { machine = receivers.receiver_of (receiver_data e.channel p); kept = [] })

abbrev pub begun_anew : Plain → Own → Node
begun_anew p own = node_of p (untried (record own { ends = map (end_begun p) own.ends }))

-- What an event comes to.
pub record Done : Type 0 where
  pub reply : Reply
  pub delta : List Did
  pub pushed : Option Frame
  pub received : List Message
  pub next : Node

-- nothing beside a reply and another node
abbrev pub quiet : Reply → List Did → Node → Done
quiet reply delta n = record { reply = reply; delta = delta; pushed = None; received = []; next = n }

abbrev pub wanted : Option Reply → Reply → Reply
wanted None reply = reply
wanted (Some other) reply = other

abbrev pub done : Deed → Choice → Node → Done
done d Runs n = record {
  reply = d.reply;
  delta = delta_of d.parts;
  pushed = d.pushed;
  received = d.received;
  next = node_of (do_all d.parts n.manager) (forgotten_rows (delta_of d.parts) d.own);
}
done d NoMemory n = quiet (wanted d.wanting d.reply) [] n
done d (Stopped by part left) n = record {
  reply = replies.Stopped by;
  delta = delta_before part d.parts;
  pushed = None;
  received = d.received;
  next = node_of (stopped_at part d.parts left n.manager) n.own;
}

-- which choices there are
abbrev pub CanWant : Option Reply → Type 0
CanWant None = ⊥
CanWant (Some reply) = Unit {0}

abbrev pub CanCome : Deed → Choice → Node → Type 0
CanCome d Runs n = Possible Runs d.parts n.manager.log.armed
CanCome d NoMemory n = CanWant d.wanting
CanCome d (Stopped by part left) n = Possible (Stopped by part left) d.parts n.manager.log.armed
