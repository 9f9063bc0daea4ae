-- Cables: what a reader sees of the items that lie there. What the scripted faults make of them is mq_cable's.
use Rattle.std.specs.Prelude.{◌≡◌, ◌⊎◌, ℕ, ◌+◌, max, Bool, true, false, ◌&&◌, List, [], ◌∷◌, ◌++◌, Option, Some, None, length, drop, filter, flat_map}
use Rattle.mq_spec_network.specs.Terms.{Frame, Seen, Actor, Entry, Fault, Offer, made_of, Within}
use Rattle.mq_spec_node.specs.from_frame.SeenVariants as items

-- an item of a cable: the stamp of its frame, and what a reader sees of it
pub record Lying : Type 0 where
  pub stamp : ℕ
  pub seen : Seen

abbrev pub whole : Frame → Lying
whole f = record { stamp = f.stamp; seen = items.Frame f }

-- a spoiled one is seen as such
abbrev pub spoiled : Lying → Lying
spoiled x = record { stamp = x.stamp; seen = items.Spoiled }

-- what the faults make of the items that were offered
abbrev pub made : List Fault → List (Offer Lying) → List Lying
made fs os = made_of spoiled fs os

-- What the entries of an end offered, and what they popped.
abbrev pub offered_if : Option Frame → ℕ → List (Offer Lying)
offered_if None extras = []
offered_if (Some f) extras = record { item = whole f; extras = extras } ∷ []

abbrev pub offered_by : List Entry → List (Offer Lying)
offered_by es = flat_map (λ (e : Entry). offered_if e.effect.pushed e.effect.extras) es

abbrev pub is_popped : Entry → Bool
is_popped e = elim e.effect.popped as (λ x. Bool) [ items.Nothing ↦ false | items.Spoiled ↦ true | items.Frame f ↦ true ]

abbrev pub pops_of : List Entry → List Entry
pops_of es = filter is_popped es

abbrev pub pops_item : (Actor → Bool) → Entry → Bool
pops_item test e = test e.actor && is_popped e

-- Among all entries of its manager, what an end popped is the next item each time, and that entry's stamp is one above the
-- greater of the last entry's and the item's.
abbrev pub Takes : (Actor → Bool) → ℕ → List Entry → List Lying → Type 0
Takes test last [] taken = taken ≡ []
Takes test last (e ∷ es) [] = (pops_item test e ≡ false) × Takes test e.stamp es []
Takes test last (e ∷ es) (x ∷ xs) =
    ((pops_item test e ≡ false) × Takes test e.stamp es (x ∷ xs))
    ⊎ ((pops_item test e ≡ true) × (e.effect.popped ≡ x.seen) × (e.stamp ≡ max last x.stamp + 1) × Takes test e.stamp es xs)

-- Over a run, what the end of a test popped, among these entries, is a prefix of what the faults make of what was offered;
-- and no more extra items were pushed than were due.
pub record Carries (fs : List Fault) (pushes : List Entry) (test : Actor → Bool) (es : List Entry) : Type 0 where
  pub taken : List Lying
  pub left : List Lying
  pub whole : made fs (offered_by pushes) ≡ taken ++ left
  pub takes : Takes test 0 es taken
  pub within : Within fs [] (offered_by pushes)

-- what lies on a direction when so much was offered and so many items were popped
abbrev pub lying : List Fault → List Entry → List Entry → List Lying
lying fs pushes pops = drop (length (pops_of pops)) (made fs (offered_by pushes))
