-- The directions of cables that are open for a phase.
use Rattle.std.specs.Prelude.{◌≡◌, ◌≤◌, ◌<◌, ℕ, true, List, [], ◌∷◌, Some, length, slice_get, slice_set}
use Rattle.crossbeam_queue.specs.Passes.{IsPassOf, ruled_capacity, view}
use Rattle.mq_cable.specs.Lists.{AllLow}
use Rattle.mq_ways.specs.Ways.{CableState}
use Rattle.mq_split.specs.declared.opening.Passes.{Passes}
use Rattle.mq_split.specs.declared.opening.Pipes.{Pipes}

-- both directions of a cable are open, and nothing was popped since
pub record IsOpen (p : Pipes) (s : Passes) : Type 0 where
  pub out : IsPassOf p.out s.out_push × IsPassOf p.out s.out_pop × (ruled_capacity p.out ≡ 64)
  pub back : IsPassOf p.back s.back_push × IsPassOf p.back s.back_pop × (ruled_capacity p.back ≡ 64)
  pub pushes : ((view s.out_push).pushes ≡ true) × ((view s.back_push).pushes ≡ true)
  pub pops : ((view s.out_pop).pops ≡ true) × ((view s.back_pop).pops ≡ true)
  pub none : ((view s.out_pop).received ≡ []) × ((view s.back_pop).received ≡ [])

-- of a cable: nothing lies on it; at most 64 items lie on each of its directions; no stamp is above 2^60
abbrev pub IsBare : CableState → Type 0
IsBare c = (c.out.items ≡ []) × (c.back.items ≡ [])

abbrev pub IsShort : CableState → Type 0
IsShort c = (length c.out.items ≤ 64) × (length c.back.items ≤ 64)

abbrev pub IsLow : CableState → Type 0
IsLow c = AllLow c.out.items × AllLow c.back.items

-- each cable of a list, by its place; of the first so many
abbrev pub EachCable : (CableState → Type 0) → List CableState → Type 0
EachCable P cs = (k : ℕ) (c : CableState) → slice_get cs k ≡ Some c → P c

abbrev pub FirstBare : ℕ → List CableState → Type 0
FirstBare n cs = (k : ℕ) (c : CableState) → k < n → slice_get cs k ≡ Some c → IsBare c

-- a cable without its items; with those that lie in its queues
abbrev pub bare : CableState → CableState
bare c = record { out = record { items = []; offers = c.out.offers }; back = record { items = []; offers = c.back.offers } }

abbrev pub whole : Passes → CableState → CableState
whole s c = record { out = record { items = (view s.out_push).sent; offers = c.out.offers }; back = record { items = (view s.back_push).sent; offers = c.back.offers } }

-- of the first cables of a list, each with the passes at its place
abbrev pub wholes : List Passes → List CableState → List CableState
wholes [] cs = cs
wholes (s ∷ ss) [] = []
wholes (s ∷ ss) (c ∷ cs) = whole s c ∷ wholes ss cs

-- each of these passes is of the queues at its place
abbrev pub AreOpen : List Pipes → List Passes → Type 0
AreOpen ps ss = (k : ℕ) (s : Passes) → slice_get ss k ≡ Some s → (p : Pipes) × (slice_get ps k ≡ Some p) × IsOpen p s

-- the cable at this place is bare, and has its items again with these passes
abbrev pub IsBaredAt : Passes → ℕ → CableState → List CableState → List CableState → Type 0
IsBaredAt s at c old new = (whole s (bare c) ≡ c) × (new ≡ slice_set old at (bare c))
