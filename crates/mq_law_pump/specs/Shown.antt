-- A cable of a network as a lane: which nodes and ends it has, and what lies there.
use Rattle.std.specs.Prelude.{◌≡◌, ◌⊎◌, ℕ, [], Some}
use Rattle.mq_frame.specs.declared.frame.Seen.TheVariants as items
use Rattle.mq_history.specs.declared.calls.Entry.{Entry}
use Rattle.mq_history.specs.declared.scenario.CableLine.{CableLine}
use Rattle.mq_spec_node.specs.Doers.{by, is_receiver, is_sender}
use Rattle.mq_spec_node.specs.Deeds.{Deed}
use Rattle.mq_spec_node.specs.Node.{Node, ReceiverEnd, SenderEnd, end_in}
use Rattle.mq_spec_node.specs.Node.ChannelEnd.{Receives, Sends}
use Rattle.mq_spec_node.specs.Replays.{after, done_by}
use Rattle.mq_spec_node.specs.Senders.{sender_deed, timeout_deed}
use Rattle.mq_spec_network.specs.Turns.{Network, back_of, does, out_of}
use Rattle.mq_law_idle.specs.Lanes.{Lane, lane}
use Rattle.mq_law_idle.specs.Roads.{ReceiverMay, ReceiverTurn, SenderMay, SenderTurn, laid, receiver_turn, sender_timed_out, sender_turn, waiting}
use Rattle.mq_message.specs.declared.message.Message.{Message}
use Rattle.mq_sender.specs.States.{awaits}
use Rattle.mq_spec_node.specs.Receivers.{is_receiver_defined, receiver_deed}
use Rattle.std.specs.Prelude.{true, ◌∷◌, List}
use Rattle.mq_law_pump.specs.Deeds.{HasReceiver, HasSender}
use Rattle.mq_law_pump.specs.Entries.{Ran}
use Rattle.mq_law_pump.specs.Ways.{IsWithin, seen_of}

-- The lane of a cable without faults. `near` and `far` are the nodes with which its two managers began, `e` and `r` its ends.
pub record Shows (w : Network) (k : ℕ) (c : CableLine) (near far : Node) (e : SenderEnd) (r : ReceiverEnd) (l : Lane) : Type 0 where
  pub faultless : (c.out ≡ []) × (c.back ≡ [])
  pub near_is : w.first c.sender ≡ Some near
  pub far_is : w.first c.receiver ≡ Some far
  pub cables : (e.cable ≡ k) × (r.cable ≡ k)
  pub sends : HasSender e (after near (w.done c.sender)) l.road
  pub takes : HasReceiver r (after far (w.done c.receiver)) l.road
  pub out : l.road.out ≡ seen_of (out_of w k c)
  pub back : l.road.back ≡ seen_of (back_of w k c)
  pub out_within : IsWithin (by (is_sender k) (w.done c.sender)) (by (is_receiver k) (w.done c.receiver))
  pub back_within : IsWithin (by (is_receiver k) (w.done c.receiver)) (by (is_sender k) (w.done c.sender))

-- what a turn of its sender makes of it
pub record SenderMoves (w : Network) (k : ℕ) (c : CableLine) (near far : Node) (e : SenderEnd) (r : ReceiverEnd) (l : Lane) (m : ℕ) (x : Entry) : Type 0 where
  pub turn : SenderTurn
  pub may : SenderMay turn l.road
  pub deed : Deed
  pub at : m ≡ c.sender
  pub is : sender_deed x.stamp e (waiting l.road.back) (after near (w.done c.sender)) ≡ Some deed
  pub did : Ran x (after near (w.done c.sender)) deed
  pub next : after near ((does m (x ∷ []) w).done c.sender) ≡ (done_by x (after near (w.done c.sender))).next
  pub still : (does m (x ∷ []) w).done c.receiver ≡ w.done c.receiver
  pub ends : end_in e.cable deed.own.ends ≡ Some (Sends (record e { machine = (sender_turn turn l.road).sender }))
  pub out : (sender_turn turn l.road).out ≡ laid deed.pushed l.road.out
  pub shows : Shows (does m (x ∷ []) w) k c near far (record e { machine = (sender_turn turn l.road).sender }) r (lane l.fresh (sender_turn turn l.road))

-- a timeout of it
pub record SenderTimesOut (w : Network) (k : ℕ) (c : CableLine) (near far : Node) (e : SenderEnd) (r : ReceiverEnd) (l : Lane) (m : ℕ) (x : Entry) : Type 0 where
  pub waits : awaits l.road.sender.state ≡ true
  pub deed : Deed
  pub at : m ≡ c.sender
  pub is : timeout_deed e (after near (w.done c.sender)) ≡ Some deed
  pub did : Ran x (after near (w.done c.sender)) deed
  pub next : after near ((does m (x ∷ []) w).done c.sender) ≡ (done_by x (after near (w.done c.sender))).next
  pub still : (does m (x ∷ []) w).done c.receiver ≡ w.done c.receiver
  pub ends : end_in e.cable deed.own.ends ≡ Some (Sends (record e { machine = (sender_timed_out l.road).sender }))
  pub shows : Shows (does m (x ∷ []) w) k c near far (record e { machine = (sender_timed_out l.road).sender }) r (lane true (sender_timed_out l.road))

-- and a turn of its receiver
pub record ReceiverMoves (w : Network) (k : ℕ) (c : CableLine) (near far : Node) (e : SenderEnd) (r : ReceiverEnd) (l : Lane) (m : ℕ) (x : Entry) : Type 0 where
  pub turn : ReceiverTurn
  pub defined : turn.defined ≡ is_receiver_defined r.channel (after far (w.done c.receiver)).manager.definitions
  pub may : ReceiverMay turn l.road
  pub deed : Deed
  pub at : m ≡ c.receiver
  pub is : receiver_deed x.stamp r x.effect.popped (after far (w.done c.receiver)) ≡ Some deed
  pub did : Ran x (after far (w.done c.receiver)) deed
  pub next : after far ((does m (x ∷ []) w).done c.receiver) ≡ (done_by x (after far (w.done c.receiver))).next
  pub still : (does m (x ∷ []) w).done c.sender ≡ w.done c.sender
  pub popped : (x.effect.popped ≡ waiting l.road.out) ⊎ (x.effect.popped ≡ items.Nothing)
  pub kept : List Message
  pub ends : end_in r.cable deed.own.ends ≡ Some (Receives (record r { machine = (receiver_turn turn l.road).receiver; kept = kept }))
  pub shows : Shows (does m (x ∷ []) w) k c near far e (record r { machine = (receiver_turn turn l.road).receiver; kept = kept }) (lane l.fresh (receiver_turn turn l.road))
