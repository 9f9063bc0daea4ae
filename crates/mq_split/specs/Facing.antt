-- What a cable has of its two ends: what lies on each direction is what their managers' entries say.
use Rattle.std.specs.Prelude.{◌≡◌, ℕ, Bool, List, Some, slice_get}
use Rattle.mq_cable.specs.declared.fault.Fault.{Fault}
use Rattle.mq_history.specs.declared.calls.Actor.{Actor}
use Rattle.mq_history.specs.declared.scenario.CableLine.{CableLine}
use Rattle.mq_spec_node.specs.Terms.{Entry}
use Rattle.mq_spec_node.specs.Words.{by, is_receiver, is_sender}
use Rattle.mq_spec_network.specs.Cables.{Carries}
use Rattle.mq_ways.specs.Ways.{AreShown, CableState, IsWay, WayState}

-- One direction of a cable, by what the managers of its writer and of its reader did: what lies there is what they say, each
-- frame that was offered has a spelling, and what was popped was offered.
pub record Facing (fs : List Fault) (writer reader : Actor → Bool) (written read : List Entry) (d : WayState) : Type 0 where
  pub way : IsWay fs (by writer written) (by reader read) d
  pub shown : AreShown (by writer written)
  pub carries : Carries fs (by writer written) reader read

-- both directions of a cable
pub record IsJoined (k : ℕ) (l : CableLine) (done : ℕ → List Entry) (c : CableState) : Type 0 where
  pub out : Facing l.out (is_sender k) (is_receiver k) (done l.sender) (done l.receiver) c.out
  pub back : Facing l.back (is_receiver k) (is_sender k) (done l.receiver) (done l.sender) c.back

-- of all cables
abbrev pub AreJoined : List CableLine → (ℕ → List Entry) → List CableState → Type 0
AreJoined ls done cs = (k : ℕ) (l : CableLine) (c : CableState) → slice_get ls k ≡ Some l → slice_get cs k ≡ Some c → IsJoined k l done c
