-- A sender's turn as one call.
use Rattle.std.specs.Prelude.{◌≡◌, ℕ, List, Some, None, Result}
use Rattle.mq_base.specs.declared.want.NoMemory.{NoMemory as Want}
use Rattle.mq_cable.specs.declared.item.Item.{Item}
use Rattle.mq_cable.specs.Offers.{Offering}
use Rattle.mq_history.specs.declared.calls.Actor.TheVariants as actors
use Rattle.mq_spec_manager.specs.Agents.{IsUp}
use Rattle.mq_spec_node.specs.Terms.{Seen}
use Rattle.mq_spec_node.specs.Words.{SenderEnd, sender_end}
use Rattle.mq_turn_parts.specs.from_events.States.{NodeState}
use Rattle.mq_turn_parts.specs.declared.telling.Turn.{Turn}
use Rattle.mq_turn_parts.specs.Acting.{SendsTurn}
use Rattle.mq_turn_parts.specs.Unseen.{IsUnseen, turn_deed}

-- a sender's end of this cable, at a manager that is up
pub record IsHere (cable : ℕ) (e : SenderEnd) (s : NodeState) : Type 0 where
  pub cable_is : e.cable ≡ cable
  pub up : IsUp s.manager.plain
  pub there : sender_end e.cable s.own ≡ Some e

-- none: whatever waits, there is no turn
abbrev pub NeverActs : ℕ → NodeState → Type 0
NeverActs cable s = (seen : Seen) → turn_deed (actors.Sender cable) s seen ≡ None

-- A sender's turn at a cable, by what its definition says, and the history that it leaves replays; `empty` says that nothing waited.
abbrev pub SendsAt : ℕ → (reads writes : List Item → Type 0) → (empty full : Type 0) → Offering → Offering → NodeState → Result Turn Want → NodeState → Type 0
SendsAt cable reads writes empty full o n old result new = SendsTurn cable reads writes (IsUnseen empty (turn_deed (actors.Sender cable) old)) full o n old result new
