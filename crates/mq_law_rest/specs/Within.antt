-- Cables without faults, of which no more was popped than was offered.
use Rattle.std.specs.Prelude.{◌≡◌, ℕ, [], Some, slice_get}
use Rattle.mq_history.specs.declared.scenario.CableLine.{CableLine}
use Rattle.mq_history.specs.declared.scenario.Scenario.{Scenario}
use Rattle.mq_spec_node.specs.Doers.{by, is_receiver, is_sender}
use Rattle.mq_spec_network.specs.Turns.{Network}
use Rattle.mq_law_pump.specs.Ways.{IsWithin}

-- no cable has faults
abbrev pub NoFaults : Scenario → Type 0
NoFaults s = (k : ℕ) (c : CableLine) → slice_get s.cables k ≡ Some c → (c.out ≡ []) × (c.back ≡ [])

-- both ways of each cable
pub record AreWithin (w : Network) (k : ℕ) (c : CableLine) : Type 0 where
  pub out : IsWithin (by (is_sender k) (w.done c.sender)) (by (is_receiver k) (w.done c.receiver))
  pub back : IsWithin (by (is_receiver k) (w.done c.receiver)) (by (is_sender k) (w.done c.sender))

abbrev pub AllWithin : Network → Type 0
AllWithin w = (k : ℕ) (c : CableLine) → slice_get w.scenario.cables k ≡ Some c → AreWithin w k c
