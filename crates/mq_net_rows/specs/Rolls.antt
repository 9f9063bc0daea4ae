-- Queues found by their names.
use Rattle.std.specs.Prelude.{◌≡◌, ℕ, List, [], Option, None, Some, position, slice_get}
use Rattle.std.specs.Str.{bytes_eq}
use Rattle.mq_queue.specs.declared.row.Row.{Row}
use Rattle.mq_calls.specs.declared.image.Shelf.{Shelf}
use Rattle.mq_net_rows.specs.declared.lanes.Named.{Named}

-- the place of the first that has a name
abbrev pub place_in : {A : Type 0} → (A → List ℕ) → List A → List ℕ → Option ℕ
place_in {A} name_of xs name = position (λ (x : A). bytes_eq name (name_of x)) xs

-- each name is found at the first that has it
abbrev pub AreFound : {A : Type 0} → (A → List ℕ) → (List ℕ → Option ℕ) → List A → Type 0
AreFound name_of find xs = (name : List ℕ) → find name ≡ place_in name_of xs name

abbrev pub queue_name : Named → List ℕ
queue_name q = q.name

abbrev pub shelf_name : Shelf → List ℕ
shelf_name s = s.name

-- the rows of the queue at a place
abbrev pub shelf_rows : Option Shelf → List Row
shelf_rows None = []
shelf_rows (Some s) = s.rows

abbrev pub rows_on : Option ℕ → List Shelf → List Row
rows_on None ss = []
rows_on (Some at) ss = shelf_rows (slice_get ss at)
