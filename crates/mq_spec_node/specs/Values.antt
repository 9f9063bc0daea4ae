-- What is seen of a node by its contracts, and how its calls make it grow: by entries.
use Rattle.std.specs.Prelude.{◌≡◌, ℕ, ◌<◌, ◌^◌, nat_le, Bool, ◌||◌, List, [], ◌∷◌, ◌++◌, Option, Some, None, length, flat_map}
use Rattle.mq_spec_node.specs.Terms.{Entry, Frame, Seen, History}
use Rattle.mq_history.specs.from_frame.SeenVariants as items
use Rattle.mq_history.specs.from_frame.Frames.{frame_bytes}
use Rattle.mq_history.specs.from_frame.Sight.{Shows}
use Rattle.mq_history.specs.from_cable.{Item}
use Rattle.mq_history.specs.from_cable.Faults.{Offer}
use Rattle.mq_spec_node.specs.Node.{Node}
use Rattle.mq_spec_node.specs.Replays.{Surroundings, Replays, TriggersStand, opening_node, state_of}

-- what the scenario gives it, its history, the node that this replays to, and the last stamp, 0 before the first
pub record NodeValue : Type 0 where
  pub given : Surroundings
  pub history : History
  pub node : Node
  pub stamp : ℕ

abbrev pub stamp_after : ℕ → List Entry → ℕ
stamp_after last [] = last
stamp_after last (e ∷ es) = stamp_after e.stamp es

pub record IsReplayed (v : NodeValue) : Type 0 where
  pub replays : Replays v.given v.history
  pub triggers : TriggersStand None (opening_node v.given v.history) v.history.entries
  pub node : v.node ≡ state_of v.given v.history
  pub stamp : v.stamp ≡ stamp_after 0 v.history.entries

-- A call adds these entries, and nothing else.
abbrev pub more_entries : List Entry → History → History
more_entries es h = record h { entries = h.entries ++ es }

pub record Grows (old : NodeValue) (es : List Entry) (new : NodeValue) : Type 0 where
  pub given : new.given ≡ old.given
  pub history : new.history ≡ more_entries es old.history

-- a node makes at most 2^48 events, and none after one whose stamp is 2^60 or more
abbrev pub is_spent : NodeValue → Bool
is_spent v = nat_le (2 ^ 48) (length v.history.entries) || nat_le (2 ^ 60) v.stamp

-- Entries and wires. What entries offer, as items of bytes.
abbrev pub item_of : Frame → Item
item_of f = record { stamp = f.stamp; bytes = frame_bytes f }

abbrev pub item_if : Option Frame → ℕ → List (Offer Item)
item_if None extras = []
item_if (Some f) extras = record { item = item_of f; extras = extras } ∷ []

abbrev pub items_of : List Entry → List (Offer Item)
items_of es = flat_map (λ (e : Entry). item_if e.effect.pushed e.effect.extras) es

-- What they popped, item by item: the entry keeps what the item's bytes show, and has a greater stamp.
abbrev pub PopsOne : Seen → ℕ → (List Item → Type 0) → List Item → Type 0
PopsOne items.Nothing stamp rest xs = rest xs
PopsOne seen stamp rest [] = ⊥
PopsOne seen stamp rest (x ∷ xs) = Shows x.bytes seen × (x.stamp < stamp) × rest xs

abbrev pub Pops : List Entry → List Item → Type 0
Pops [] xs = xs ≡ []
Pops (e ∷ es) xs = PopsOne e.effect.popped e.stamp (Pops es) xs
