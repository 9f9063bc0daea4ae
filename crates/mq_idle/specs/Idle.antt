-- Whether a cable is idle, told by its two ends' nodes and by what lies on it: what each end would push is asked without a turn.
use Rattle.std.specs.Prelude.{◌≡◌, ℕ, suc, ◌+◌, nat_lt, nat_le, Bool, true, false, not, ◌&&◌, ◌||◌, List, [], ◌∷◌, Option, Some, None, length, is_some}
use Rattle.mq_cable.specs.declared.fault.Fault.{Fault}
use Rattle.mq_cable.specs.declared.fault.Fault.TheVariants as faults
use Rattle.mq_cable.specs.declared.item.Item.{Item}
use Rattle.mq_cable.specs.Faults.{fault_of}
use Rattle.mq_history.specs.declared.scenario.CableLine.{CableLine}
use Rattle.mq_receiver.specs.declared.state.Owed.{Owed}
use Rattle.mq_sender.specs.declared.state.SenderState.{SenderState}
use Rattle.mq_sender.specs.declared.state.SenderState.TheVariants as states
use Rattle.mq_sync.specs.declared.data.Stock.{Stock}
use Rattle.mq_calls.specs.State.{Plain}
use Rattle.mq_calls.specs.Reads.{is_up}
use Rattle.mq_spec_manager.specs.Agents.{batch_row, stock}
use Rattle.mq_spec_node.specs.Words.{Node, ReceiverEnd, SenderEnd, by, is_receiver, is_sender, receiver_end, sender_end}
use Rattle.mq_spec_network.specs.Turns.{Network, node_at, rests}
use Rattle.mq_ways.specs.Ways.{AreShown, CableState, IsCableAt, WayState}

-- The network has this node at the cable's sender, and this one at its receiver; and this lies on the cable.
pub record IsSeenAs (w : Network) (k : ℕ) (l : CableLine) (s r : Node) (c : CableState) : Type 0 where
  pub sender : node_at w l.sender ≡ Some s
  pub receiver : node_at w l.receiver ≡ Some r
  pub at : IsCableAt w k l c
  pub out : AreShown (by (is_sender k) (w.done l.sender))
  pub back : AreShown (by (is_receiver k) (w.done l.receiver))

-- A frame with this fault is to lie there now: it is neither dropped nor late.
abbrev pub comes_now : Option Fault → Bool
comes_now None = true
comes_now (Some (faults.Drop on)) = false
comes_now (Some (faults.Late on j)) = false
comes_now (Some (faults.Copy on j)) = true
comes_now (Some (faults.Spoil on)) = true

-- a full direction refuses the next frame
abbrev pub refuses : List Fault → WayState → Bool
refuses fs w = nat_le 64 (length w.items) && comes_now (fault_of (suc w.offers.number) fs)

abbrev pub none_lies : List Item → Bool
none_lies [] = true
none_lies (x ∷ xs) = false

-- A sender for which nothing waits pushes a frame in its next turn: a running one where it begins a unit, of one message at least.
abbrev pub begins_unit : (batch_size : ℕ) → Stock → Bool
begins_unit batch_size s = s.enabled && not s.expired && nat_lt 0 s.free && nat_lt 0 batch_size

abbrev pub pushes_in : SenderState → SenderEnd → Plain → Bool
pushes_in states.Hailing e p = true
pushes_in states.Running e p = begins_unit e.machine.limits.batch_size (stock e.channel p)
pushes_in (states.Sending sent number) e p = nat_lt sent e.machine.count && is_some (batch_row e.channel (sent + 1) p)
pushes_in states.Ready e p = true
pushes_in _ e p = false

abbrev pub pushes : SenderEnd → Plain → Bool
pushes e p = pushes_in e.machine.state e p

-- A sender's end that has nothing to read: it rests, or it is blocked.
abbrev pub sender_settles : (far refused : Bool) → Option SenderEnd → Plain → Bool
sender_settles far refused None p = true
sender_settles far refused (Some e) p = rests e.machine.state (stock e.channel p) || (not far && refused && pushes e p)

abbrev pub sender_looks_idle : ℕ → (far empty refused : Bool) → Node → Bool
sender_looks_idle k far empty refused n = not (is_up n.manager.running) || (empty && sender_settles far refused (sender_end k n.own) n.manager)

-- A receiver's end: where it owes a frame it is blocked; else it has nothing to read.
abbrev pub owing_settles : (near empty refused : Bool) → Option Owed → Bool
owing_settles near empty refused None = empty
owing_settles near empty refused (Some o) = not near && refused

abbrev pub receiver_settles : (near empty refused : Bool) → Option ReceiverEnd → Bool
receiver_settles near empty refused None = empty
receiver_settles near empty refused (Some e) = owing_settles near empty refused e.machine.owes

abbrev pub receiver_looks_idle : ℕ → (near empty refused : Bool) → Node → Bool
receiver_looks_idle k near empty refused n = not (is_up n.manager.running) || receiver_settles near empty refused (receiver_end k n.own)

-- both ends
abbrev pub looks_idle : ℕ → CableLine → Node → Node → CableState → Bool
looks_idle k l s r c =
    sender_looks_idle k (is_up r.manager.running) (none_lies c.back.items) (refuses l.out c.out) s
    && receiver_looks_idle k (is_up s.manager.running) (none_lies c.out.items) (refuses l.back c.back) r
