-- Where a PUMP comes to rest: what is asked of the network at which it begins, cable by cable; and the bound of its turns.
use Rattle.std.specs.Prelude.{◌≡◌, ◌≤◌, ◌+◌, ◌*◌, ℕ, suc, Bool, true, false, List, [], ◌∷◌, Option, Some, None, length, slice_get}
use Rattle.mq_history.specs.declared.scenario.CableLine.{CableLine}
use Rattle.mq_queue.specs.declared.row.Row.{Row}
use Rattle.mq_sender.specs.States.{is_running}
use Rattle.mq_spec_node.specs.Doers.{by, is_receiver, is_sender}
use Rattle.mq_spec_node.specs.Node.{Node, ReceiverEnd, SenderEnd, end_in, sender_end}
use Rattle.mq_spec_node.specs.Node.ChannelEnd.{Receives, Sends}
use Rattle.mq_spec_node.specs.Replays.{after}
use Rattle.mq_spec_network.specs.Turns.{Network, back_of, node_at, out_of, where_there}
use Rattle.mq_law_pump.specs.Away.{AllAway, RowsAway, WayAway}
use Rattle.mq_law_pump.specs.Below.{BindsUpto}
use Rattle.mq_law_pump.specs.Rows.{rows_of}
use Rattle.mq_law_pump.specs.Sees.{IsServed}
use Rattle.mq_law_pump.specs.Ways.{IsWithin, seen_of}

-- One cable: it has no faults; its two ends are there; where the sender runs, its receiver is defined and not stopped, and no session above the
-- sender's is known there, or on its way; and no row of a running sender, no message on the cable and none that its receiver keeps resolves at the
-- receiver to the queue of a running sender.
pub record IsRestful (w : Network) (k : ℕ) (c : CableLine) : Type 0 where
  pub faultless : (c.out ≡ []) × (c.back ≡ [])
  pub near : Node
  pub far : Node
  pub near_is : w.first c.sender ≡ Some near
  pub far_is : w.first c.receiver ≡ Some far
  pub sender : SenderEnd
  pub receiver : ReceiverEnd
  pub cables : (sender.cable ≡ k) × (receiver.cable ≡ k)
  pub here : end_in sender.cable (after near (w.done c.sender)).own.ends ≡ Some (Sends sender)
  pub there : end_in receiver.cable (after far (w.done c.receiver)).own.ends ≡ Some (Receives receiver)
  pub out_within : IsWithin (by (is_sender k) (w.done c.sender)) (by (is_receiver k) (w.done c.receiver))
  pub back_within : IsWithin (by (is_receiver k) (w.done c.receiver)) (by (is_sender k) (w.done c.sender))
  pub served : is_running sender.machine.state ≡ true → IsServed receiver (after far (w.done c.receiver))
  pub known : is_running sender.machine.state ≡ true → receiver.machine.session ≤ sender.machine.kept.session
  pub binds : is_running sender.machine.state ≡ true → BindsUpto sender.machine.kept.session (seen_of (out_of w k c))
  pub rows : is_running sender.machine.state ≡ true → RowsAway (after far (w.done c.receiver)) (rows_of sender.channel (after near (w.done c.sender)).manager)
  pub way : WayAway (after far (w.done c.receiver)) (seen_of (out_of w k c))
  pub kept : AllAway (after far (w.done c.receiver)) receiver.kept

abbrev pub Restful : Network → Type 0
Restful w = (k : ℕ) (c : CableLine) → slice_get w.scenario.cables k ≡ Some c → IsRestful w k c

-- 16 per row on the queue of a running sender, 16 per channel, 3 per item on a cable
abbrev pub rows_if : Bool → List Row → ℕ
rows_if true rows = length rows
rows_if false rows = 0

abbrev pub sender_rows : Option SenderEnd → Node → ℕ
sender_rows None n = 0
sender_rows (Some e) n = rows_if (is_running e.machine.state) (rows_of e.channel n.manager)

abbrev pub most_of : Network → ℕ → CableLine → ℕ
most_of w k c = 16 * where_there 0 (λ (n : Node). sender_rows (sender_end k n.own) n) (node_at w c.sender) + 16 + 3 * (length (out_of w k c) + length (back_of w k c))

abbrev pub most_from : Network → ℕ → List CableLine → ℕ
most_from w k [] = 0
most_from w k (c ∷ cs) = most_of w k c + most_from w (suc k) cs

abbrev pub most : Network → ℕ
most w = most_from w 0 w.scenario.cables
