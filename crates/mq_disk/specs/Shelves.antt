-- Disks by name.
use Rattle.std.specs.Prelude.{◌≡◌, ◌⊎◌, ℕ, suc, zero, List, [], ◌∷◌}
use Rattle.mq_disk.specs.declared.shelf.Side.{Side}
use Rattle.mq_disk.specs.declared.mem_shelf.Slot.{Slot}

module _ {D : Type 0} where
  -- the disk of that name and side
  abbrev pub IsOf : Slot D → List ℕ → Side → Type 0
  IsOf slot name side = (slot.name ≡ name) × (slot.side ≡ side)

  -- the first disk of that name and side stands at this place
  abbrev pub FirstAt : List (Slot D) → List ℕ → Side → ℕ → Type 0
  FirstAt [] name side place = ⊥
  FirstAt (slot ∷ slots) name side zero = IsOf slot name side
  FirstAt (slot ∷ slots) name side (suc place) = (IsOf slot name side → ⊥) × FirstAt slots name side place

  -- the first disk of that name and side has these bytes
  abbrev pub Stands : (D → List ℕ) → List (Slot D) → List ℕ → Side → List ℕ → Type 0
  Stands seen [] name side bytes = ⊥
  Stands seen (slot ∷ slots) name side bytes =
      (IsOf slot name side × (seen slot.disk ≡ bytes)) ⊎ ((IsOf slot name side → ⊥) × Stands seen slots name side bytes)

  -- no disk has failed
  abbrev pub AllFresh : (D → ℕ) → List (Slot D) → Type 0
  AllFresh faults [] = Unit {0}
  AllFresh faults (slot ∷ slots) = (faults slot.disk ≡ 0) × AllFresh faults slots

-- the disks in order, the takes that fail, the number of the take to come, the count of faults
pub record ShelfState (D : Type 0) : Type 0 where
  pub slots : List (Slot D)
  pub failing : List ℕ
  pub calls : ℕ
  pub faults : ℕ
