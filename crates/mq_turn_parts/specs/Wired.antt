-- What a turn over a wire comes to: an event, with what it popped and what it offered; or nothing, and why.
use Rattle.std.specs.Prelude.{◌≡◌, ◌+◌, ℕ, max, List, [], ◌∷◌, Option, Some, None, Result, Ok, Err}
use Rattle.mq_base.specs.declared.want.NoMemory.{NoMemory as Want}
use Rattle.mq_cable.specs.declared.item.Item.{Item}
use Rattle.mq_cable.specs.Offers.{Offering}
use Rattle.mq_frame.specs.Frames.{HasSpelling}
use Rattle.mq_frame.specs.Sight.{Shows}
use Rattle.mq_frame.specs.declared.frame.Seen.TheVariants as items
use Rattle.mq_history.specs.declared.calls.Call.TheVariants as calls
use Rattle.mq_spec_node.specs.Terms.{Actor, Entry, Frame, Seen}
use Rattle.mq_spec_node.specs.Words.{Deed, item_of}
use Rattle.mq_wires.specs.Wires.{HasPushed, IsFull, OffersNone}
use Rattle.mq_events.specs.States.{NodeState}
use Rattle.mq_events.specs.Events.{Adds, Stays}
use Rattle.mq_turn_parts.specs.declared.telling.Turn.{Turn}
use Rattle.mq_turn_parts.specs.declared.telling.Turn.TheVariants as turns

-- An item was popped that shows what the entry keeps: its stamp is one above the greater of the last and the item's.
pub record PopsItem (reads : List Item → Type 0) (last : ℕ) (seen : Seen) (stamp : ℕ) : Type 0 where
  pub item : Item
  pub read : reads (item ∷ [])
  pub shows : Shows item.bytes seen
  pub stamp_is : stamp ≡ max last item.stamp + 1

abbrev pub Popped : (reads : List Item → Type 0) → (none : Type 0) → (last : ℕ) → Seen → (stamp : ℕ) → Type 0
Popped reads none last items.Nothing stamp = reads [] × none
Popped reads none last items.Spoiled stamp = PopsItem reads last items.Spoiled stamp
Popped reads none last (items.Frame f) stamp = PopsItem reads last (items.Frame f) stamp

-- A frame was offered, which is read from its bytes; or none.
abbrev pub Offered : (writes : List Item → Type 0) → (full : Type 0) → Offering → Option Frame → (extras : ℕ) → Offering → Type 0
Offered writes full o None extras n = OffersNone writes o n
Offered writes full o (Some f) extras n = HasPushed writes full o f extras n × HasSpelling f.kind

pub record ChangedBy (who : Actor) (reads writes : List Item → Type 0) (none full : Type 0) (o n : Offering) (old new : NodeState) : Type 0 where
  pub entry : Entry
  pub adds : Adds who calls.Turn entry old new
  pub popped : Popped reads none old.stamp entry.effect.popped entry.stamp
  pub offered : Offered writes full o entry.effect.pushed entry.effect.extras n

-- the turn is not taken
pub record Untaken (reads writes : List Item → Type 0) (o n : Offering) (old new : NodeState) : Type 0 where
  pub stays : Stays old new
  pub read : reads []
  pub offers : OffersNone writes o n

-- Why: there is none, with nothing that waits; or its frame is to be pushed now, and there was no room.
pub data IsStill (none full : Type 0) (o : Offering) (deed : Option Deed) : Type 0 where
  Idles : none → deed ≡ None → IsStill none full o deed
  Refuses : (d : Deed) (f : Frame) → none → deed ≡ Some d → d.pushed ≡ Some f → IsFull full o (item_of f) → IsStill none full o deed

-- What a turn comes to, by its deed where nothing waits. `none` says that nothing waited, or that it makes no difference.
abbrev pub TurnIs : (who : Actor) → (reads writes : List Item → Type 0) → (none full : Type 0) → Offering → Offering → Option Deed → NodeState → Result Turn Want → NodeState → Type 0
TurnIs who reads writes none full o n deed old (Ok turns.Changed) new = ChangedBy who reads writes none full o n old new
TurnIs who reads writes none full o n deed old (Ok turns.Still) new = Untaken reads writes o n old new × IsStill none full o deed
TurnIs who reads writes none full o n deed old (Err e) new = Untaken reads writes o n old new
