-- Turns of ends at a node, as turns of their lanes.
use Rattle.std.specs.Prelude.{◌≡◌, ◌⊎◌, true, List, None, Option, Some, is_some}
use Rattle.mq_frame.specs.declared.frame.Seen.{Seen}
use Rattle.mq_message.specs.declared.message.Message.{Message}
use Rattle.mq_sender.specs.States.{awaits, is_running}
use Rattle.mq_calls.specs.Steps.{do_all}
use Rattle.mq_spec_node.specs.Node.{Node, ReceiverEnd, SenderEnd, end_in}
use Rattle.mq_spec_node.specs.Node.ChannelEnd.{Receives, Sends}
use Rattle.mq_spec_node.specs.Deeds.{Deed}
use Rattle.mq_spec_node.specs.Receivers.{is_receiver_defined}
use Rattle.mq_spec_network.specs.Steps.{pushed_of}
use Rattle.mq_law_idle.specs.Roads.{is_full, ReceiverMay, ReceiverTurn, Road, SenderMay, SenderTurn, laid, receiver_does, receiver_turn, sender_does, sender_timed_out, sender_turn, taken_by, taken_from}
use Rattle.mq_law_pump.specs.Rows.{AreWithin, rows_of}

-- The lane takes a turn that counts; its machine is the end's, what it pushes is the deed's frame, it takes what the deed pops,
-- and where the sender runs on, the rows of its queue are within the lane's.
pub record TurnsLane (e : SenderEnd) (n : Node) (d : Deed) (w : Road) : Type 0 where
  pub turn : SenderTurn
  pub may : SenderMay turn w
  pub ends : end_in e.cable d.own.ends ≡ Some (Sends (record e { machine = (sender_turn turn w).sender }))
  pub out : (sender_turn turn w).out ≡ laid d.pushed w.out
  pub back : (sender_turn turn w).back ≡ taken_from (sender_does turn w) w.back
  pub receiver : (sender_turn turn w).receiver ≡ w.receiver
  pub rows : is_running (sender_turn turn w).sender.state ≡ true → AreWithin (rows_of e.channel (do_all d.parts n.manager)) (sender_turn turn w)

-- A turn of a receiver's end is one too: what it pushes is the deed's frame, and it takes what the deed pops.
pub record TakesLane (e : ReceiverEnd) (n : Node) (d : Deed) (w : Road) : Type 0 where
  pub turn : ReceiverTurn
  pub defined : turn.defined ≡ is_receiver_defined e.channel n.manager.definitions
  pub may : ReceiverMay turn w
  pub kept : List Message
  pub ends : end_in e.cable d.own.ends ≡ Some (Receives (record e { machine = (receiver_turn turn w).receiver; kept = kept }))
  pub out : (receiver_turn turn w).out ≡ taken_by (receiver_does turn w) w.out
  pub back : (receiver_turn turn w).back ≡ laid d.pushed w.back
  pub sender : (receiver_turn turn w).sender ≡ w.sender
  pub free : (receiver_turn turn w).free ≡ w.free
  pub held : (receiver_turn turn w).held ≡ w.held

-- A timeout of a sender's end.
pub record TimesOutLane (e : SenderEnd) (n : Node) (d : Deed) (w : Road) : Type 0 where
  pub waits : awaits w.sender.state ≡ true
  pub ends : end_in e.cable d.own.ends ≡ Some (Sends (record e { machine = (sender_timed_out w).sender }))
  pub pushed : d.pushed ≡ None
  pub rows : is_running (sender_timed_out w).sender.state ≡ true → AreWithin (rows_of e.channel (do_all d.parts n.manager)) w

-- What is given of a lane before a turn: the node's end has its machine, and where that is a sender that runs, the rows of its queue
-- are within the lane's.
pub record HasSender (e : SenderEnd) (n : Node) (w : Road) : Type 0 where
  pub machine : w.sender ≡ e.machine
  pub here : end_in e.cable n.own.ends ≡ Some (Sends e)
  pub rows : is_running e.machine.state ≡ true → AreWithin (rows_of e.channel n.manager) w

pub record HasReceiver (e : ReceiverEnd) (n : Node) (w : Road) : Type 0 where
  pub machine : w.receiver ≡ e.machine
  pub here : end_in e.cable n.own.ends ≡ Some (Receives e)

-- A deed that takes memory of its own accord: where none is left, it is no event.
abbrev pub EachWantsNone : Option Deed → Type 0
EachWantsNone None = Unit {0}
EachWantsNone (Some d) = d.wanting ≡ None

-- An end that changes nothing: it has nothing to do, or its push is refused by a full cable.
abbrev pub IsStillEnd : Option Deed → List Seen → Type 0
IsStillEnd o way = (o ≡ None) ⊎ ((is_some (pushed_of o) ≡ true) × (is_full way ≡ true))
