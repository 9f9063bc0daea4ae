-- A sender's end that may act, and what its turn comes to.
use Rattle.std.specs.Prelude.{◌≡◌, ◌+◌, ◌<◌, ℕ, List, Some, Result}
use Rattle.mq_base.specs.declared.want.NoMemory.{NoMemory as Want}
use Rattle.mq_cable.specs.declared.item.Item.{Item}
use Rattle.mq_cable.specs.Offers.{Offering}
use Rattle.mq_frame.specs.declared.frame.Seen.TheVariants as items
use Rattle.mq_history.specs.declared.calls.Actor.TheVariants as actors
use Rattle.mq_history.specs.declared.calls.Call.TheVariants as calls
use Rattle.mq_spec_manager.specs.Agents.{IsUp}
use Rattle.mq_spec_node.specs.Words.{SenderEnd, deed_of, sender_end}
use Rattle.mq_events.specs.States.{IsKept, IsServed, NodeState, node_in}
use Rattle.mq_events.specs.Events.{MayAct}
use Rattle.mq_turn_parts.specs.declared.telling.Turn.{Turn}
use Rattle.mq_turn_parts.specs.Wired.{TurnIs}

-- A sender's end that may act, at a manager that is up.
pub record Acts (e : SenderEnd) (s : NodeState) : Type 0 where
  pub kept : IsKept s
  pub served : IsServed s
  pub may : MayAct s
  pub up : IsUp s.manager.plain
  pub there : sender_end e.cable s.own ≡ Some e

-- So with room for the entry of its turn.
pub record MayTurn (e : SenderEnd) (s : NodeState) : Type 0 where
  pub room : 0 < s.room
  pub acts : Acts e s

-- Its turn: the history that it leaves replays.
pub record SendsTurn (cable : ℕ) (reads writes : List Item → Type 0) (none full : Type 0) (o n : Offering) (old : NodeState) (result : Result Turn Want) (new : NodeState) : Type 0 where
  pub kept : IsKept new
  pub spare : new.spare ≡ old.spare
  pub turn : TurnIs (actors.Sender cable) reads writes none full o n (deed_of (old.stamp + 1) (actors.Sender cable) calls.Turn items.Nothing (node_in old)) old result new
