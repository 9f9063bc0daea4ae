-- What an end's turn, as one call, comes to: what is known where it popped nothing.
use Rattle.std.specs.Prelude.{◌≡◌, ◌+◌, List, Option, Some, None, Result}
use Rattle.mq_base.specs.declared.want.NoMemory.{NoMemory as Want}
use Rattle.mq_cable.specs.declared.item.Item.{Item}
use Rattle.mq_cable.specs.Offers.{Offering}
use Rattle.mq_frame.specs.declared.frame.Seen.TheVariants as items
use Rattle.mq_history.specs.declared.calls.Call.TheVariants as calls
use Rattle.mq_spec_node.specs.Terms.{Actor, Frame, Seen}
use Rattle.mq_spec_node.specs.Words.{Deed, deed_of}
use Rattle.mq_events.specs.States.{NodeState, node_in}
use Rattle.mq_turn_parts.specs.declared.telling.Turn.{Turn}
use Rattle.mq_turn_parts.specs.Wired.{TurnIs}

-- Nothing waited; or, whatever waits, the turn is none, or it offers a frame and takes nothing.
pub data IsUnseen (empty : Type 0) (deed : Seen → Option Deed) : Type 0 where
  Empty : empty → IsUnseen empty deed
  Rests : ((seen : Seen) → deed seen ≡ None) → IsUnseen empty deed
  Pushes : (d : Deed) (f : Frame) → d.pushed ≡ Some f → ((seen : Seen) → deed seen ≡ Some d) → IsUnseen empty deed

-- the deed of an end's turn, by what it sees
abbrev pub turn_deed : Actor → NodeState → Seen → Option Deed
turn_deed who s seen = deed_of (s.stamp + 1) who calls.Turn seen (node_in s)

-- An end's turn: an event more, or none exactly where its table has none or a full cable refuses its frame; or no memory.
abbrev pub EndTurn : (who : Actor) → (reads writes : List Item → Type 0) → (empty full : Type 0) → Offering → Offering → NodeState → Result Turn Want → NodeState → Type 0
EndTurn who reads writes empty full o n old result new = TurnIs who reads writes (IsUnseen empty (turn_deed who old)) full o n (turn_deed who old items.Nothing) old result new
