-- Queues with their rows by when they came, as entries by name.
use Rattle.std.specs.Prelude.{◌≡◌, ℕ, ◌<◌, List, if◌then◌else◌, Option, Some, None, map}
use Rattle.std.specs.List.{AllByRecursion}
use Rattle.std.specs.List.Sorted.{IsStrictlySortedBy}
use Rattle.std.specs.Map.{keys_of, lookup}
use Rattle.std.specs.BTreeMap.{is_at}
use Rattle.std.specs.Ordering.{nat_cmp}
use Rattle.std.specs.Str.{bytes_eq}
use Rattle.indexmap.specs.IndexMap.{IndexMap, get}
use Rattle.mq_queue.specs.declared.row.Row.{Row}
use Rattle.mq_shelves.specs.declared.rack.Stand.{Stand}
use Rattle.mq_shelves.specs.declared.slots.Slot.{Slot}

-- when the queue of a name came
abbrev pub born_of : {S : Type 0} → IndexMap (List ℕ) ℕ S → List ℕ → Option ℕ
born_of born name = get bytes_eq born name

-- what contracts see
abbrev pub slot_entry : ℕ × Slot → List ℕ × List (Stand × Row)
slot_entry e = (e.1.name, e.1.rack)

abbrev pub slot_entries : List (ℕ × Slot) → List (List ℕ × List (Stand × Row))
slot_entries es = map slot_entry es

-- where the queue of a name is kept
abbrev pub place_if : List ℕ → ℕ → Option Slot → Option ℕ
place_if name b None = None
place_if name b (Some slot) = if bytes_eq name slot.name then Some b else None

abbrev pub place_of : Option ℕ → List (ℕ × Slot) → List ℕ → Option ℕ
place_of None es name = None
place_of (Some b) es name = place_if name b (lookup (is_at (nat_cmp b)) es)

-- a queue is kept where it was noted that it came, and came before the next one
pub record IsSlot (born : List ℕ → Option ℕ) (next : ℕ) (e : ℕ × Slot) : Type 0 where
  pub noted : born e.1.name ≡ Some e.0
  pub came : e.0 < next

pub record AreSlots (born : List ℕ → Option ℕ) (next : ℕ) (es : List (ℕ × Slot)) : Type 0 where
  pub each : AllByRecursion (IsSlot born next) es
  pub sorted : IsStrictlySortedBy nat_cmp (keys_of es)
