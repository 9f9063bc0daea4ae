-- What an end of a channel sees on its wire, and what an offer comes to.
use Rattle.std.specs.Prelude.{◌≡◌, ◌≤◌, ◌<◌, ℕ, List, [], ◌∷◌, ◌++◌, Option, Some, None, Result, Ok, Err, length}
use Rattle.mq_base.specs.declared.want.NoMemory.{NoMemory}
use Rattle.mq_cable.specs.declared.item.Item.{Item}
use Rattle.mq_cable.specs.Faults.{due_after, pushed_now, pushed_of}
use Rattle.mq_cable.specs.Offers.{HasTaken, Offering, next_fault}
use Rattle.mq_frame.specs.Frames.{HasSpelling, frame_bytes}
use Rattle.mq_frame.specs.Sight.{Shows}
use Rattle.mq_frame.specs.declared.frame.Frame.{Frame}
use Rattle.mq_frame.specs.declared.frame.Seen.{Seen}
use Rattle.mq_frame.specs.declared.frame.Seen.TheVariants as items
use Rattle.mq_spec_node.specs.Values.{item_of}

-- a frame has the stamp of the item that brings it
abbrev pub HasStamp : ℕ → Seen → Type 0
HasStamp stamp items.Nothing = Unit {0}
HasStamp stamp items.Spoiled = Unit {0}
HasStamp stamp (items.Frame f) = f.stamp ≡ stamp

-- the item that was fetched shows this
pub record ShowsItem (front : Option Item) (seen : Seen) (stamp : ℕ) : Type 0 where
  pub item : Item
  pub is : front ≡ Some item
  pub shows : Shows item.bytes seen
  pub stamp_is : stamp ≡ item.stamp
  pub has : HasStamp item.stamp seen

-- what is seen: nothing, where a fetch found nothing; or what the fetched item shows
abbrev pub Sees : Option Item → Type 0 → Seen → ℕ → Type 0
Sees front empty items.Nothing stamp = empty × (stamp ≡ 0)
Sees front empty items.Spoiled stamp = ShowsItem front items.Spoiled stamp
Sees front empty (items.Frame f) stamp = ShowsItem front (items.Frame f) stamp

-- A frame was offered, and so many extra items were pushed behind it: what is pushed is what the faults make of it and of what
-- was offered before. Fewer extra items than are due are pushed only where a push found no room.
pub record HasOffered (writes : List Item → Type 0) (full : Type 0) (o : Offering) (x : Item) (extras : ℕ) (n : Offering) : Type 0 where
  pub pushed : (offered : List Item) → HasTaken o offered → writes (pushed_of o.faults offered x extras)
  pub taken : (offered : List Item) → HasTaken o offered → HasTaken n (offered ++ x ∷ [])
  pub most : (offered : List Item) → HasTaken o offered → extras ≤ length (due_after o.faults (offered ++ x ∷ []))
  pub fewer : (offered : List Item) → HasTaken o offered → extras < length (due_after o.faults (offered ++ x ∷ [])) → full
  pub faults : n.faults ≡ o.faults

-- It is to be pushed now, and there was no room.
pub record IsFull (full : Type 0) (o : Offering) (x : Item) : Type 0 where
  pub now : pushed_now (next_fault o) x ≡ [] → ⊥
  pub was : full

-- nothing was offered
pub record OffersNone (writes : List Item → Type 0) (o n : Offering) : Type 0 where
  pub same : n ≡ o
  pub written : writes []

pub record HasPushed (writes : List Item → Type 0) (full : Type 0) (o : Offering) (f : Frame) (extras : ℕ) (n : Offering) : Type 0 where
  pub offered : HasOffered writes full o (item_of f) extras n
  pub shows : HasSpelling f.kind → Shows (frame_bytes f) (items.Frame f)

abbrev pub OfferTold : (writes : List Item → Type 0) → (full : Type 0) → Offering → Frame → Result (Option ℕ) NoMemory → Offering → Type 0
OfferTold writes full o f (Ok (Some extras)) n = HasPushed writes full o f extras n
OfferTold writes full o f (Ok None) n = OffersNone writes o n × IsFull full o (item_of f)
OfferTold writes full o f (Err e) n = OffersNone writes o n
