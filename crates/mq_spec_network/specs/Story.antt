-- The story of a network: all entries of its managers' histories, by stamp and then by manager.
use Rattle.std.specs.Prelude.{ℕ, ◌≡◌, ◌<◌, ◌⊎◌, nat_lt, Bool, List, [], ◌∷◌, Option, Some, None, slice_get, ◌==◌, ◌&&◌, ◌||◌, if◌then◌else◌, suc}
use Rattle.mq_spec_network.specs.Terms.{Entry, History}
pub use Rattle.mq_spec_node.specs.from_base.Members.{Mem, Chain}

-- an entry of the story: the manager's place in the scenario, and its entry
pub record Line : Type 0 where
  pub manager : ℕ
  pub entry : Entry

-- by Lamport's clock: the smaller stamp first, of equal ones the smaller manager
abbrev pub Earlier : Line → Line → Type 0
Earlier x y = (x.entry.stamp < y.entry.stamp) ⊎ ((x.entry.stamp ≡ y.entry.stamp) × (x.manager < y.manager))

abbrev pub Ranked : List Line → Type 0
Ranked xs = Chain Earlier xs

-- what one manager did of it
abbrev pub part : ℕ → List Line → List Entry
part m [] = []
part m (x ∷ xs) = if m == x.manager then x.entry ∷ part m xs else part m xs

abbrev pub entries_or : Option History → List Entry
entries_or None = []
entries_or (Some h) = h.entries

-- the entries of the manager at a place; no other manager does anything
abbrev pub entries_at : List History → ℕ → List Entry
entries_at hs m = entries_or (slice_get hs m)

-- The story: no other list is one.
pub record IsStory (hs : List History) (s : List Line) : Type 0 where
  pub ranked : Ranked s
  pub parts : (m : ℕ) → part m s ≡ entries_at hs m

-- the same by members alone, as a sort has it
pub record IsSorted (hs : List History) (s : List Line) : Type 0 where
  pub ranked : Ranked s
  pub only : (x : Line) → Mem x s → Mem x.entry (entries_at hs x.manager)
  pub all : (m : ℕ) (e : Entry) → Mem e (entries_at hs m) → Mem (record { manager = m; entry = e }) s

-- a sort that computes it
abbrev pub is_earlier : Line → Line → Bool
is_earlier x y = nat_lt x.entry.stamp y.entry.stamp || ((x.entry.stamp == y.entry.stamp) && nat_lt x.manager y.manager)

abbrev pub set_in : Line → List Line → List Line
set_in x [] = x ∷ []
set_in x (y ∷ ys) = if is_earlier x y then x ∷ y ∷ ys else y ∷ set_in x ys

abbrev pub pour : ℕ → List Entry → List Line → List Line
pour m [] s = s
pour m (e ∷ es) s = set_in (record { manager = m; entry = e }) (pour m es s)

abbrev pub weave_from : ℕ → List History → List Line
weave_from m [] = []
weave_from m (h ∷ hs) = pour m h.entries (weave_from (suc m) hs)

abbrev pub weave : List History → List Line
weave hs = weave_from 0 hs
