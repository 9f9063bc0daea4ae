-- Which ends of which cables a node has.
use Rattle.std.specs.Prelude.{◌≡◌, ℕ, Some}
use Rattle.mq_history.specs.declared.scenario.CableLine.{CableLine}
use Rattle.mq_spec_node.specs.Node.{Node, ReceiverEnd, SenderEnd, receiver_end, sender_end}
use Rattle.mq_spec_network.specs.Turns.{Network, node_at}

-- each end of a cable is at its manager
pub record HasEnds (w : Network) (k : ℕ) (l : CableLine) : Type 0 where
  pub sender : (n : Node) → node_at w l.sender ≡ Some n → (e : SenderEnd) × (sender_end k n.own ≡ Some e)
  pub receiver : (n : Node) → node_at w l.receiver ≡ Some n → (e : ReceiverEnd) × (receiver_end k n.own ≡ Some e)
