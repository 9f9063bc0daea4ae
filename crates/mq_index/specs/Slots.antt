-- What rows in slots keep: when each came, where each ident stands, and how many there are.
use Rattle.std.specs.Prelude.{◌≡◌, ◌+◌, ◌<◌, ◌≤◌, ℕ, Bool, true, false, not, List, [], ◌∷◌, if◌then◌else◌, Option, None, Some, slice_get, slice_index, length}
use Rattle.std.specs.HashMap.{HashMap, get}
use Rattle.mq_message.specs.declared.message.Ident.{Ident}
use Rattle.mq_message.specs.declared.place.Holder.{Holder}
use Rattle.mq_queue.specs.declared.row.Row.{Row}
use Rattle.mq_queue.specs.Rows.{same_ident, has_ident, is_by_unit, is_free, is_persistent}
use Rattle.mq_queue.specs.Queues.{freed, unit_freed}
use Rattle.mq_queue.specs.Counts.{weight}

-- the row of a slot
abbrev pub row_in : Option (Option Row) → Option Row
row_in None = None
row_in (Some slot) = slot

-- each number is above those before it
abbrev pub AreRising : List ℕ → Type 0
AreRising marks = (i j a b : ℕ) → i < j → slice_get marks i ≡ Some a → slice_get marks j ≡ Some b → a < b

-- The slots have the arrivals of their rows, whose lanes are the ten.
pub record AreMarked (marks : List ℕ) (slots : List (Option Row)) (arrivals : ℕ) : Type 0 where
  pub long : length marks ≡ length slots
  pub rising : AreRising marks
  pub known : (i a : ℕ) → slice_get marks i ≡ Some a → a ≤ arrivals
  pub over : (i a : ℕ) → slice_get marks i ≡ Some a → 0 < a
  pub mark : (i : ℕ) (row : Row) → slice_get slots i ≡ Some (Some row) → slice_get marks i ≡ Some row.place.arrival
  pub lane : (i : ℕ) (row : Row) → slice_get slots i ≡ Some (Some row) → row.place.lane < 10

-- the slot that was noted of an ident
abbrev pub home_in : {S : Type 0} → HashMap Ident ℕ S → Ident → Option ℕ
home_in homes ident = get same_ident homes ident

-- no slot has a row with the ident
abbrev pub NoRow : Ident → List (Option Row) → Type 0
NoRow ident slots = (i : ℕ) (row : Row) → slice_get slots i ≡ Some (Some row) → has_ident ident row ≡ false

-- this slot alone has one
pub record IsOnly (ident : Ident) (at : ℕ) (slots : List (Option Row)) : Type 0 where
  pub row : Row
  pub there : slice_get slots at ≡ Some (Some row)
  pub is : has_ident ident row ≡ true
  pub only : (j : ℕ) (other : Row) → slice_get slots j ≡ Some (Some other) → has_ident ident other ≡ true → j ≡ at

abbrev pub IsHome : Ident → List (Option Row) → Option ℕ → Type 0
IsHome ident slots None = NoRow ident slots
IsHome ident slots (Some at) = IsOnly ident at slots

-- each ident's home is noted
abbrev pub AreHomes : (Ident → Option ℕ) → List (Option Row) → Type 0
AreHomes homes slots = (ident : Ident) → IsHome ident slots (homes ident)

-- what the rows of slots add up to
abbrev pub total : (Row → ℕ) → List (Option Row) → ℕ
total w [] = 0
total w (None ∷ slots) = total w slots
total w (Some row ∷ slots) = w row + total w slots

abbrev pub one : Row → ℕ
one row = 1

-- each counter counts the free rows of at least its priority
abbrev pub AreCounted : List ℕ → List (Option Row) → Type 0
AreCounted frees slots = (least : ℕ) → least < 10 → slice_index frees least ≡ total (weight least) slots

-- a free row is held
abbrev pub held_so : Holder → Row → Row
held_so by row = if is_free row then record row { by = Some by } else row

-- a row that stands where another stood, with its ids
pub record IsAlike (row new : Row) : Type 0 where
  pub place : new.place ≡ row.place
  pub ident : new.message.ident ≡ row.message.ident
  pub msg_id : new.message.md.msg_id ≡ row.message.md.msg_id
  pub correl_id : new.message.md.correl_id ≡ row.message.md.correl_id

-- what a slot adds to the counter of a priority
abbrev pub slot_weight : ℕ → Option Row → ℕ
slot_weight least None = 0
slot_weight least (Some row) = weight least row

-- a held row is free again, with a backout where that is said
abbrev pub freed_so : Bool → Row → Row
freed_so backed_out row = if is_free row then row else freed backed_out row

-- the lanes of all rows are the ten
abbrev pub AreLow : List (Option Row) → Type 0
AreLow slots = (i : ℕ) (row : Row) → slice_get slots i ≡ Some (Some row) → row.place.lane < 10

-- what a stop keeps of a slot: rows whose messages are persistent
abbrev pub passes : Option Row → Bool
passes None = false
passes (Some row) = not (is_persistent row.message)

abbrev pub kept_slot : Option Row → Option Row
kept_slot slot = if passes slot then None else slot

-- and a row that a unit holds is free again
abbrev pub in_unit : Option Row → Bool
in_unit None = false
in_unit (Some row) = is_by_unit row.by

abbrev pub freed_slot : Option Row → Option Row
freed_slot None = None
freed_slot (Some row) = Some (unit_freed row)

-- What holds of the rows of slots: each came later than those before it, from 1 on, in one of ten lanes, and no ident stands twice.
pub record IsSound (slots : List (Option Row)) (arrivals : ℕ) : Type 0 where
  pub sorted : (i j : ℕ) (a b : Row) → i < j → slice_get slots i ≡ Some (Some a) → slice_get slots j ≡ Some (Some b) → a.place.arrival < b.place.arrival
  pub arrived : (i : ℕ) (a : Row) → slice_get slots i ≡ Some (Some a) → (0 < a.place.arrival) × (a.place.arrival ≤ arrivals)
  pub low : AreLow slots
  pub apart : (i j : ℕ) (a b : Row) → slice_get slots i ≡ Some (Some a) → slice_get slots j ≡ Some (Some b) → has_ident a.message.ident b ≡ true → i ≡ j
