-- Stories as places of entries, and histories that are merged.
use Rattle.std.specs.Prelude.{ℕ, ◌≡◌, ◌+◌, ◌-◌, ◌<◌, nat_le, List, [], ◌∷◌, ◌++◌, Option, Some, None, slice_get, get_or, drop, length, if◌then◌else◌}
use Rattle.std.specs.List.{flat_map}
use Rattle.mq_base.specs.Members.{Mem, Chain}
use Rattle.mq_spec_network.specs.from_history.{Entry, History}
use Rattle.mq_spec_network.specs.Story.{Line, Earlier, Ranked, part, entries_at}
use Rattle.mq_story.specs.declared.merging.Spot.{Spot}

abbrev pub entry_in : Option History → ℕ → Option Entry
entry_in None at = None
entry_in (Some h) at = slice_get h.entries at

-- the entry at a spot
abbrev pub entry_of : List History → Spot → Option Entry
entry_of hs s = entry_in (slice_get hs s.manager) s.at

abbrev pub line_if : ℕ → Option Entry → List Line
line_if m None = []
line_if m (Some e) = record { manager = m; entry = e } ∷ []

abbrev pub line_at : List History → Spot → List Line
line_at hs s = line_if s.manager (entry_of hs s)

-- the lines of a story at these spots
abbrev pub lines_of : List History → List Spot → List Line
lines_of hs spots = flat_map (line_at hs) spots

abbrev pub Sooner : Entry → Entry → Type 0
Sooner a b = a.stamp < b.stamp

-- the stamps of each history rise
abbrev pub AreRising : List History → Type 0
AreRising hs = (m : ℕ) → Chain Sooner (entries_at hs m)

abbrev pub stamp_of : Option Entry → Option ℕ
stamp_of None = None
stamp_of (Some e) = Some e.stamp

-- the earlier of two by stamp, of equal ones the one that was there
abbrev pub earlier_of : Option (ℕ × ℕ) → ℕ → ℕ → Option (ℕ × ℕ)
earlier_of None m stamp = Some (m, stamp)
earlier_of (Some first) m stamp = if nat_le first.1 stamp then Some first else Some (m, stamp)

-- how far each history is merged, and its next entry
abbrev pub head_at : List ℕ → ℕ → ℕ
head_at heads m = get_or heads m 0

abbrev pub head_of : List History → List ℕ → ℕ → Option Entry
head_of hs heads m = entry_of hs (record { manager = m; at = head_at heads m })

-- the next entry of the manager at a place is the first of those at the first so many places
pub record IsLeast (hs : List History) (heads : List ℕ) (n m stamp : ℕ) : Type 0 where
  pub within : m < n
  pub entry : Entry
  pub is : head_of hs heads m ≡ Some entry
  pub stamped : entry.stamp ≡ stamp
  pub least : (k : ℕ) (e : Entry) → k < n → head_of hs heads k ≡ Some e → (k ≡ m → ⊥) → Earlier (record { manager = m; entry = entry }) (record { manager = k; entry = e })

abbrev pub IsFirstOf : List History → List ℕ → ℕ → Option (ℕ × ℕ) → Type 0
IsFirstOf hs heads n None = (k : ℕ) → k < n → head_of hs heads k ≡ None
IsFirstOf hs heads n (Some first) = IsLeast hs heads n first.0 first.1

abbrev pub IsFirst : List History → List ℕ → Option ℕ → Type 0
IsFirst hs heads None = (k : ℕ) → k < length heads → head_of hs heads k ≡ None
IsFirst hs heads (Some m) = (stamp : ℕ) × IsLeast hs heads (length heads) m stamp

-- what is merged so far, and what is left of each history
abbrev pub rest_at : List History → List ℕ → ℕ → List Entry
rest_at hs heads m = drop (head_at heads m) (entries_at hs m)

pub record IsMerged (hs : List History) (heads : List ℕ) (lines : List Line) : Type 0 where
  pub ranked : Ranked lines
  pub parts : (m : ℕ) → part m lines ++ rest_at hs heads m ≡ entries_at hs m
  pub before : (x y : Line) → Mem x lines → Mem y.entry (rest_at hs heads y.manager) → Earlier x y

-- how many entries are left
abbrev pub left : List History → List ℕ → ℕ
left [] heads = 0
left (h ∷ hs) [] = length h.entries + left hs []
left (h ∷ hs) (n ∷ heads) = (length h.entries - n) + left hs heads
