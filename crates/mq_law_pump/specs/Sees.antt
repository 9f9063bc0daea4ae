-- How a lane shows a cable in a PUMP that began at a network: its two ends, what lies on it, and what the PUMP needs of the two managers.
use Rattle.std.specs.Prelude.{◌≡◌, ◌⊎◌, ℕ, true, false, Some}
use Rattle.mq_history.specs.declared.calls.Entry.{Entry}
use Rattle.mq_history.specs.declared.scenario.CableLine.{CableLine}
use Rattle.mq_receiver.specs.States.{is_stopped}
use Rattle.mq_sender.specs.States.{is_running}
use Rattle.mq_calls.specs.Reads.{has_held_by_other}
use Rattle.mq_spec_manager.specs.Agents.{queue_of_sender}
use Rattle.mq_spec_node.specs.Deeds.{Deed}
use Rattle.mq_spec_node.specs.Node.{Node, ReceiverEnd, SenderEnd, end_in}
use Rattle.mq_spec_node.specs.Receivers.{is_receiver_defined}
use Rattle.mq_spec_node.specs.Replays.{after}
use Rattle.mq_spec_network.specs.Turns.{Network, node_at}
use Rattle.mq_law_idle.specs.Lanes.{Lane}
use Rattle.mq_law_pump.specs.Away.{AllAway, IsAsBegun, RowsAway, RunsOn, WayAway}
use Rattle.mq_law_pump.specs.Below.{IsBelow}
use Rattle.mq_law_pump.specs.Entries.{Ran}
use Rattle.mq_law_pump.specs.Leaves.{parts_define_none}
use Rattle.mq_law_pump.specs.Others.{parts_add_none}
use Rattle.mq_law_pump.specs.Rows.{rows_of}
use Rattle.mq_law_pump.specs.Shown.{Shows}

-- a sender that runs, or was timed out in this PUMP
abbrev pub Wants : SenderEnd → Lane → Type 0
Wants e l = (l.fresh ≡ true) ⊎ (is_running e.machine.state ≡ true)

-- its receiver is defined, and not stopped
pub record IsServed (r : ReceiverEnd) (far : Node) : Type 0 where
  pub defined : is_receiver_defined r.channel far.manager.definitions ≡ true
  pub stopped : is_stopped r.machine.state ≡ false

-- The sender's manager now, and as both managers began: a sender that runs has the queue of one that ran then, and no row of it resolves at
-- the receiver's manager to the queue of one that ran there.
pub record NearNeeds (near near0 far0 : Node) (e : SenderEnd) : Type 0 where
  pub same : IsAsBegun near.manager near0.manager
  pub queue : is_running e.machine.state ≡ true → RunsOn near0 (queue_of_sender e.channel near.manager)
  pub rows : is_running e.machine.state ≡ true → RowsAway far0 (rows_of e.channel near.manager)

-- the receiver's manager
pub record FarNeeds (far far0 : Node) (r : ReceiverEnd) : Type 0 where
  pub same : IsAsBegun far.manager far0.manager
  pub kept : AllAway far0 r.kept

-- and the cable
pub record LaneNeeds (far0 : Node) (e : SenderEnd) (r : ReceiverEnd) (l : Lane) : Type 0 where
  pub served : Wants e l → IsServed r far0
  pub below : is_running e.machine.state ≡ true → IsBelow l.road
  pub way : WayAway far0 l.road.out

-- `w0` is the network at which the PUMP began.
pub record Sees (w0 w : Network) (k : ℕ) (c : CableLine) (l : Lane) : Type 0 where
  pub near : Node
  pub far : Node
  pub near0 : Node
  pub far0 : Node
  pub sender : SenderEnd
  pub receiver : ReceiverEnd
  pub shows : Shows w k c near far sender receiver l
  pub near0_is : node_at w0 c.sender ≡ Some near0
  pub far0_is : node_at w0 c.receiver ≡ Some far0
  pub near_needs : NearNeeds (after near (w.done c.sender)) near0 far0 sender
  pub far_needs : FarNeeds (after far (w.done c.receiver)) far0 receiver
  pub lane_needs : LaneNeeds far0 sender receiver l

-- An entry of a PUMP that isn't of this end leaves it, and of a sender's end its queue.
pub record BesideNear (e : SenderEnd) (n : Node) (x : Entry) : Type 0 where
  pub deed : Deed
  pub ran : Ran x n deed
  pub ends : end_in e.cable deed.own.ends ≡ end_in e.cable n.own.ends
  pub defines : parts_define_none deed.parts ≡ true
  pub adds : is_running e.machine.state ≡ true → (parts_add_none e.channel (queue_of_sender e.channel n.manager) deed.parts ≡ true) × (has_held_by_other e.channel (queue_of_sender e.channel n.manager) n.manager ≡ false)

pub record BesideFar (r : ReceiverEnd) (n : Node) (x : Entry) : Type 0 where
  pub deed : Deed
  pub ran : Ran x n deed
  pub ends : end_in r.cable deed.own.ends ≡ end_in r.cable n.own.ends
  pub defines : parts_define_none deed.parts ≡ true
