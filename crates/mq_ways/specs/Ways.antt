-- The two directions of a cable in one thread: what lies on them, and what was offered, as the entries of its two ends tell.
use Rattle.std.specs.Prelude.{◌≡◌, ◌⊎◌, Bool, false, ◌≤◌, ◌^◌, ℕ, List, [], ◌∷◌, Option, Some, None, length, drop}
use Rattle.std.specs.List.{AllByRecursion}
use Rattle.mq_cable.specs.declared.fault.Fault.{Fault}
use Rattle.mq_cable.specs.declared.item.Item.{Item}
use Rattle.mq_cable.specs.Faults.{made, offered_of}
use Rattle.mq_cable.specs.Offers.{HasTaken, Offering}
use Rattle.mq_frame.specs.declared.frame.Frame.{Frame}
use Rattle.mq_frame.specs.Frames.{IsFrame}
use Rattle.mq_frame.specs.Sight.{Shows}
use Rattle.mq_wires.specs.Wires.{HasStamp}
use Rattle.mq_spec_network.specs.from_spec_node.Terms.{Actor, Entry}
use Rattle.mq_spec_network.specs.from_spec_node.Words.{by, is_receiver, is_sender, items_of}
use Rattle.mq_history.specs.declared.scenario.CableLine.{CableLine}
use Rattle.mq_spec_network.specs.Cables.{Lying, is_popped, pops_of}
use Rattle.mq_spec_network.specs.Turns.{Network}

-- a direction: its items, the oldest first, and what was offered on it
pub record WayState : Type 0 where
  pub items : List Item
  pub offers : Offering

-- the sender's direction, and the receiver's
pub record CableState : Type 0 where
  pub out : WayState
  pub back : WayState

-- Nothing was offered yet.
pub record IsNew (fs : List Fault) (w : WayState) : Type 0 where
  pub none : w.items ≡ []
  pub taken : HasTaken w.offers []
  pub faults : w.offers.faults ≡ fs

-- a cable for each line
abbrev pub AreNew : List CableLine → List CableState → Type 0
AreNew [] [] = Unit {0}
AreNew [] (c ∷ cs) = ⊥
AreNew (l ∷ ls) [] = ⊥
AreNew (l ∷ ls) (c ∷ cs) = IsNew l.out c.out × IsNew l.back c.back × AreNew ls cs

-- These entries of the writer offered what was offered; what lies there is what the faults make of it, but for what these entries of
-- the reader popped.
pub record IsWay (fs : List Fault) (pushes pops : List Entry) (w : WayState) : Type 0 where
  pub taken : HasTaken w.offers (offered_of (items_of pushes))
  pub faults : w.offers.faults ≡ fs
  pub lies : w.items ≡ drop (length (pops_of pops)) (made fs (items_of pushes))
  pub few : length (pops_of pops) ≤ length (made fs (items_of pushes))
  pub low : AllByRecursion (λ (x : Item). x.stamp ≤ 2 ^ 60) (offered_of (items_of pushes))

-- both directions of a cable, by the entries of its ends
pub record IsCableAt (w : Network) (cable : ℕ) (l : CableLine) (c : CableState) : Type 0 where
  pub out : IsWay l.out (by (is_sender cable) (w.done l.sender)) (by (is_receiver cable) (w.done l.receiver)) c.out
  pub back : IsWay l.back (by (is_receiver cable) (w.done l.receiver)) (by (is_sender cable) (w.done l.sender)) c.back

-- An entry of another than this end, or one that neither offers nor pops; and entries more, of which none does as this end.
abbrev pub IsQuietEntry : (Actor → Bool) → Entry → Type 0
IsQuietEntry test e = (test e.actor ≡ false) ⊎ ((e.effect.pushed ≡ None) × (is_popped e ≡ false))

pub record IsQuiet (test : Actor → Bool) (es more : List Entry) : Type 0 where
  pub offers : items_of (by test more) ≡ items_of (by test es)
  pub pops : length (pops_of (by test more)) ≡ length (pops_of (by test es))

-- What a reader sees of an item of bytes.
pub record IsSeen (x : Item) (y : Lying) : Type 0 where
  pub stamp : x.stamp ≡ y.stamp
  pub shows : Shows x.bytes y.seen
  pub has : HasStamp x.stamp y.seen

abbrev pub AreSeen : List Item → List Lying → Type 0
AreSeen [] [] = Unit {0}
AreSeen [] (y ∷ ys) = ⊥
AreSeen (x ∷ xs) [] = ⊥
AreSeen (x ∷ xs) (y ∷ ys) = IsSeen x y × AreSeen xs ys

-- Each frame that was offered has a spelling.
abbrev pub IsShown : Option Frame → Type 0
IsShown None = Unit {0}
IsShown (Some f) = IsFrame f

abbrev pub AreShown : List Entry → Type 0
AreShown es = AllByRecursion (λ (e : Entry). IsShown e.effect.pushed) es
