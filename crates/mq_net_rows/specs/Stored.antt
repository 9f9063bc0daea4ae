-- Rows in slots, in order of arrival: a slot is empty where its row was taken. A queue lists the slots of each lane.
use Rattle.std.specs.Prelude.{◌≡◌, ◌<◌, ◌≤◌, ℕ, ◌==◌, nat_le, not, Bool, true, false, List, [], ◌∷◌, ◌++◌, if◌then◌else◌, Option, Some, None, length, map, slice_get, slice_set, find}
use Rattle.std.specs.List.{list_any}
use Rattle.mq_message.specs.declared.message.Ident.{Ident}
use Rattle.mq_queue.specs.declared.row.Row.{Row}
use Rattle.mq_queue.specs.Rows.{has_ident, insert_row, is_persistent}
use Rattle.mq_calls.specs.declared.image.Shelf.{Shelf}
use Rattle.mq_spec_network.specs.Ledger.{leave_queues}
use Rattle.mq_net_rows.specs.declared.lanes.Lane.{Lane}
use Rattle.mq_net_rows.specs.declared.lanes.Named.{Named}

-- what a slot holds
abbrev pub slot_or : Option (Option Row) → Option Row
slot_or None = None
slot_or (Some slot) = slot

abbrev pub row_at : List (Option Row) → ℕ → Option Row
row_at store k = slot_or (slice_get store k)

abbrev pub row_list : Option Row → List Row
row_list None = []
row_list (Some row) = row ∷ []

-- the rows in some slots
abbrev pub rows_of : List (Option Row) → List ℕ → List Row
rows_of store [] = []
rows_of store (k ∷ ks) = row_list (row_at store k) ++ rows_of store ks

-- the rows of a queue, lane behind lane
abbrev pub lanes_rows : List (Option Row) → List Lane → List Row
lanes_rows store [] = []
lanes_rows store (l ∷ ls) = rows_of store l.slots ++ lanes_rows store ls

abbrev pub shelf_of : List (Option Row) → Named → Shelf
shelf_of store q = record { name = q.name; rows = lanes_rows store q.lanes }

abbrev pub shelves_of : List (Option Row) → List Named → List Shelf
shelves_of store qs = map (shelf_of store) qs

-- A slot whose row stays where it passes a test.
abbrev pub kept_slot : (Row → Bool) → Option Row → Option Row
kept_slot stays None = None
kept_slot stays (Some row) = if stays row then Some row else None

-- the same of the slot at one place
abbrev pub kept_if : (Row → Bool) → Option (Option Row) → ℕ → List (Option Row) → List (Option Row)
kept_if stays None at store = store
kept_if stays (Some slot) at store = slice_set store at (kept_slot stays slot)

abbrev pub kept_at : (Row → Bool) → ℕ → List (Option Row) → List (Option Row)
kept_at stays at store = kept_if stays (slice_get store at) at store

-- a slot has such a row
abbrev pub holds : (Row → Bool) → Option Row → Bool
holds test None = false
holds test (Some row) = test row

-- a row, if it has that ident
abbrev pub its_row : Ident → Option Row → Option Row
its_row ident None = None
its_row ident (Some row) = if has_ident ident row then Some row else None

-- the first row of an ident, slots behind slots
abbrev pub lanes_find : Ident → List (Option Row) → List Lane → Option Row
lanes_find ident store [] = None
lanes_find ident store (l ∷ ls) = elim (find (has_ident ident) (rows_of store l.slots)) as (λ r. Option Row) [ None ↦ lanes_find ident store ls | Some row ↦ Some row ]

-- and queues behind queues
abbrev pub queues_find : Ident → List (Option Row) → List Named → Option Row
queues_find ident store [] = None
queues_find ident store (q ∷ qs) = elim (lanes_find ident store q.lanes) as (λ r. Option Row) [ None ↦ queues_find ident store qs | Some row ↦ Some row ]

-- Before a place each row is persistent.
abbrev pub AreLasting : ℕ → List (Option Row) → Type 0
AreLasting n store = (n ≤ length store) × ((k : ℕ) (row : Row) → k < n → row_at store k ≡ Some row → is_persistent row.message ≡ true)

-- a lane has that number
abbrev pub is_lane : ℕ → Option Lane → Bool
is_lane lane None = false
is_lane lane (Some l) = l.lane == lane

-- A slot more stands last in its lane.
abbrev pub fresh_lane : ℕ → ℕ → Lane
fresh_lane lane k = record { lane = lane; slots = k ∷ [] }

abbrev pub with_slot : ℕ → Lane → Lane
with_slot k l = record l { slots = l.slots ++ k ∷ [] }

abbrev pub put_slot : ℕ → ℕ → List Lane → List Lane
put_slot lane k [] = fresh_lane lane k ∷ []
put_slot lane k (l ∷ ls) = if nat_le lane l.lane then (if l.lane == lane then with_slot k l ∷ ls else fresh_lane lane k ∷ l ∷ ls) else l ∷ put_slot lane k ls

abbrev pub seat_on : ℕ → ℕ → Named → Named
seat_on lane k q = record q { lanes = put_slot lane k q.lanes }

-- What is kept: lanes stand in order, a slot is one of the store's and its row of the slot's lane.
abbrev pub IsOf : ℕ → Option Row → Type 0
IsOf lane None = Unit {0}
IsOf lane (Some row) = row.place.lane ≡ lane

abbrev pub AreSlots : List (Option Row) → ℕ → List ℕ → Type 0
AreSlots store lane [] = Unit {0}
AreSlots store lane (k ∷ ks) = (k < length store) × IsOf lane (row_at store k) × AreSlots store lane ks

abbrev pub AreAbove : ℕ → List Lane → Type 0
AreAbove lane [] = Unit {0}
AreAbove lane (l ∷ ls) = (lane < l.lane) × AreAbove lane ls

abbrev pub AreLanes : List (Option Row) → List Lane → Type 0
AreLanes store [] = Unit {0}
AreLanes store (l ∷ ls) = AreSlots store l.lane l.slots × AreAbove l.lane ls × AreLanes store ls

abbrev pub AreQueues : List (Option Row) → List Named → Type 0
AreQueues store [] = Unit {0}
AreQueues store (q ∷ qs) = AreLanes store q.lanes × AreQueues store qs

-- Where no ident was ever placed beside itself, each row is noted at its slot.
abbrev pub AreNoted : (Ident → Option ℕ) → List (Option Row) → Type 0
AreNoted home store = (k : ℕ) (row : Row) → row_at store k ≡ Some row → home row.message.ident ≡ Some k

-- a slot is listed by a queue
abbrev pub on_lanes : ℕ → List Lane → Bool
on_lanes k ls = list_any (λ (l : Lane). list_any (λ j. j == k) l.slots) ls

abbrev pub on_queues : ℕ → List Named → Bool
on_queues k qs = list_any (λ (q : Named). on_lanes k q.lanes) qs

-- each row's slot is
abbrev pub AreListed : List (Option Row) → List Named → Type 0
AreListed store qs = (k : ℕ) (row : Row) → row_at store k ≡ Some row → on_queues k qs ≡ true

abbrev pub IsStore : List (Option Row) → List Named → (Ident → Option ℕ) → Bool → Type 0
IsStore store qs home doubled = AreQueues store qs × (doubled ≡ false → AreNoted home store) × AreListed store qs

-- rows in order of their lanes
abbrev pub AreFrom : ℕ → List Row → Type 0
AreFrom lane [] = Unit {0}
AreFrom lane (row ∷ rows) = (lane ≤ row.place.lane) × AreFrom lane rows

abbrev pub AreInLanes : List Row → Type 0
AreInLanes [] = Unit {0}
AreInLanes (row ∷ rows) = AreFrom row.place.lane rows × AreInLanes rows

abbrev pub AreSorted : List Shelf → Type 0
AreSorted [] = Unit {0}
AreSorted (s ∷ ss) = AreInLanes s.rows × AreSorted ss

-- rows put in one after the other
abbrev pub put_row : Row → Shelf → Shelf
put_row row s = record s { rows = insert_row row s.rows }

abbrev pub put_rows : List Row → Shelf → Shelf
put_rows [] s = s
put_rows (row ∷ rows) s = put_rows rows (put_row row s)

-- an ident is left, if there is one
abbrev pub leave_some : Option Ident → List Shelf → List Shelf
leave_some None ss = ss
leave_some (Some ident) ss = leave_queues (λ (row : Row). not (has_ident ident row)) ss

-- idents left one after the other
abbrev pub leave_each : List Ident → List Shelf → List Shelf
leave_each [] ss = ss
leave_each (ident ∷ idents) ss = leave_each idents (leave_queues (λ (row : Row). not (has_ident ident row)) ss)
