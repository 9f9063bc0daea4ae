-- Local queues in slots, in order of definition: a slot is empty where its queue was deleted.
use Rattle.std.specs.Prelude.{◌≡◌, ℕ, suc, Bool, false, List, [], ◌∷◌, Option, Some, None, length, if◌then◌else◌, option_map, slice_index_or, slice_set, vec_len, vec_capacity}
use Rattle.std.proofs.Common.{Vec}
use Rattle.mq_queue.specs.declared.row.Row.{Row}
use Rattle.mq_place.specs.States.{QueueState, has_name}

-- the queues that stand there
abbrev pub present : List (Option QueueState) → List QueueState
present [] = []
present (None ∷ slots) = present slots
present (Some s ∷ slots) = s ∷ present slots

-- the slot holds the queue of that name
abbrev pub holds : List ℕ → Option QueueState → Bool
holds name None = false
holds name (Some s) = has_name name s

-- the place of the first slot that does
abbrev pub place_of : List ℕ → List (Option QueueState) → Option ℕ
place_of name [] = None
place_of name (slot ∷ slots) = if holds name slot then Some 0 else option_map suc (place_of name slots)

-- no two slots hold a queue of one name
abbrev pub AreNamed : List (Option QueueState) → Type 0
AreNamed [] = Unit {0}
AreNamed (None ∷ slots) = AreNamed slots
AreNamed (Some s ∷ slots) = (place_of s.queue.name slots ≡ None) × AreNamed slots

-- Each queue is found at its slot, and there are as many to be found as stand there.
pub record IsFiled (slots : List (Option QueueState)) (find : List ℕ → Option ℕ) (count : ℕ) : Type 0 where
  pub found : (name : List ℕ) → find name ≡ place_of name slots
  pub distinct : AreNamed slots
  pub counted : count ≡ length (present slots)

-- the slot at a place, which stands there; it is changed, or emptied
abbrev pub slot_at : List (Option QueueState) → ℕ → Option QueueState
slot_at slots at = slice_index_or slots at None

abbrev pub slot_changed : (QueueState → QueueState) → List (Option QueueState) → ℕ → List (Option QueueState)
slot_changed f slots at = slice_set slots at (option_map f (slot_at slots at))

-- A vector holds these items now, and has the length and the capacity that it had.
pub record Becomes {X Z : Type 0} (items : List X) (old new : Vec X Z) : Type 0 where
  pub slots : new.items ≡ items
  pub len : vec_len new ≡ vec_len old
  pub capacity : vec_capacity new ≡ vec_capacity old

-- every queue is changed
abbrev pub slots_changed : (QueueState → QueueState) → List (Option QueueState) → List (Option QueueState)
slots_changed f [] = []
slots_changed f (slot ∷ slots) = option_map f slot ∷ slots_changed f slots

-- the rows of the queue that stands there
abbrev pub rows_of_slot : Option QueueState → List Row
rows_of_slot None = []
rows_of_slot (Some s) = s.queue.rows

abbrev pub rows_at : List (Option QueueState) → ℕ → List Row
rows_at slots at = rows_of_slot (slot_at slots at)
