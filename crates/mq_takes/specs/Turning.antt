-- A receiver's turn as one call.
use Rattle.std.specs.Prelude.{◌≡◌, ℕ, List, Result}
use Rattle.mq_base.specs.declared.want.NoMemory.{NoMemory as Want}
use Rattle.mq_cable.specs.declared.item.Item.{Item}
use Rattle.mq_cable.specs.Offers.{Offering}
use Rattle.mq_history.specs.declared.calls.Actor.TheVariants as actors
use Rattle.mq_turn_parts.specs.from_events.States.{IsKept, NodeState}
use Rattle.mq_turn_parts.specs.declared.telling.Turn.{Turn}
use Rattle.mq_turn_parts.specs.Unseen.{EndTurn}

-- Its turn, seen from before its first look: the history that it leaves replays.
pub record TakesOne (cable : ℕ) (reads writes : List Item → Type 0) (empty full : Type 0) (o n : Offering) (old : NodeState) (result : Result Turn Want) (new : NodeState) : Type 0 where
  pub kept : IsKept new
  pub spare : new.spare ≡ old.spare
  pub turn : EndTurn (actors.Receiver cable) reads writes empty full o n old result new
