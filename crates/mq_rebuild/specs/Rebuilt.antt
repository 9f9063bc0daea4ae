-- The objects and local queues that an image tells, as a manager keeps them, and how they are built one after another.
use Rattle.std.specs.Prelude.{◌≡◌, ℕ, ◌<◌, ◌≤◌, ◌^◌, Bool, true, false, List, [], ◌∷◌, ◌++◌, length, map, sum_by, Option, Some, None, IfSome, All, AllPairs}
use Rattle.std.specs.List.{AllByRecursion}
use Rattle.std.specs.Str.{bytes_eq}
use Rattle.mq_message.specs.declared.message.Ident.{Ident}
use Rattle.mq_message.specs.declared.place.Holder.{Holder}
use Rattle.mq_queue.specs.declared.row.Row.{Row}
use Rattle.mq_queue.specs.Rows.{same_ident}
use Rattle.mq_objects.specs.declared.object.LocalQueue.{LocalQueue}
use Rattle.mq_objects.specs.declared.object.Object.{Object}
use Rattle.mq_objects.specs.declared.object.Definitions.{Definitions}
use Rattle.mq_objects.specs.Names.{is_by_priority, local_of, is_object, space_of, name_of}
use Rattle.mq_objects.specs.Changed.{set}
use Rattle.mq_calls.specs.State.Which.{Among}
use Rattle.mq_calls.specs.Changes.{held_in, lane_of}
use Rattle.mq_calls.specs.Images.{queue_on}
use Rattle.mq_calls.specs.declared.image.Image.{Image}
use Rattle.mq_calls.specs.declared.image.Shelf.{Shelf}
use Rattle.mq_calls.specs.declared.state.SenderSide.{SenderSide}
use Rattle.mq_calls.specs.declared.state.ReceiverSide.{ReceiverSide}
use Rattle.mq_sides.specs.Bonds.{has_seat}
use Rattle.mq_calls.specs.Recovery.{AreApart, listed}
use Rattle.mq_rebuild.specs.declared.building.Built.{Built}
use Rattle.mq_place.specs.States.{QueueState, state_in, change_state, on_queues, fresh_state, expecting, arrived, CanPlace, IsNowhere}

-- rows of a queue have lanes by their priorities, or all one lane
abbrev pub is_laned : Option LocalQueue → Bool
is_laned None = false
is_laned (Some q) = is_by_priority q.delivery

-- a shelf as a local queue: its rows numbered from 1, its lanes as its definition says, no put that waits
abbrev pub state_on : Definitions → Shelf → QueueState
state_on d s = record { queue = queue_on s; by_priority = is_laned (local_of s.name d); pending = 0 }

-- One after another: the row with an ident is held, where somebody holds it
abbrev pub held_as : List ℕ → Ident → Option Holder → List QueueState → List QueueState
held_as name ident None ss = ss
held_as name ident (Some by) ss = on_queues (held_in (Among name (ident ∷ [])) by) ss

-- a row is placed on its queue and held
abbrev pub row_added : List ℕ → Row → List QueueState → List QueueState
row_added name row ss = held_as name row.message.ident row.by (change_state name (arrived row.message) (change_state name expecting ss))

abbrev pub rows_added : List ℕ → List Row → List QueueState → List QueueState
rows_added name [] ss = ss
rows_added name (row ∷ rows) ss = rows_added name rows (row_added name row ss)

-- a new queue with the rows of a shelf stands last
abbrev pub shelf_defined : Definitions → Shelf → List QueueState → List QueueState
shelf_defined d s ss = ss ++ fresh_state s.name (is_laned (local_of s.name d)) ∷ []

abbrev pub shelf_added : Definitions → Shelf → List QueueState → List QueueState
shelf_added d s ss = rows_added s.name s.rows (shelf_defined d s ss)

abbrev pub shelves_added : Definitions → List Shelf → List QueueState → List QueueState
shelves_added d [] ss = ss
shelves_added d (s ∷ shelves) ss = shelves_added d shelves (shelf_added d s ss)

-- What this asks: a row can be placed once room was made for it
pub record CanAdd (name : List ℕ) (row : Row) (ss : List QueueState) : Type 0 where
  pub can : IfSome (state_in name (change_state name expecting ss)) (CanPlace row.message)
  pub fresh : IsNowhere row.message.ident (change_state name expecting ss)

abbrev pub CanAddAll : List ℕ → List Row → List QueueState → Type 0
CanAddAll name [] ss = Unit {0}
CanAddAll name (row ∷ rows) ss = CanAdd name row ss × CanAddAll name rows (row_added name row ss)

abbrev pub CanAddShelf : Definitions → Shelf → List QueueState → Type 0
CanAddShelf d s ss = CanAddAll s.name s.rows (shelf_defined d s ss)

-- (a list that stands in memory has fewer than 2^64 rows)
abbrev pub CanAddShelves : Definitions → List Shelf → List QueueState → Type 0
CanAddShelves d [] ss = Unit {0}
CanAddShelves d (s ∷ shelves) ss = (state_in s.name ss ≡ None) × (length s.rows < 2 ^ 64 → CanAddShelf d s ss) × (length s.rows < 2 ^ 64 → CanAddShelves d shelves (shelf_added d s ss))

-- objects set one after another, of which no two have one name
abbrev pub objects_set : List Object → Definitions → Definitions
objects_set [] d = d
objects_set (object ∷ objects) d = objects_set objects (set object d)

abbrev pub AreOnce : List Object → Type 0
AreOnce objects = AllPairs (λ (a b : Object). is_object (space_of a) (name_of a) b ≡ false) objects

-- Shelves as recovery gives them: rows in their lanes, each ident once on all of them, no name twice.
pub record IsRead (d : Definitions) (shelves : List Shelf) : Type 0 where
  pub named : AllPairs (λ (s t : Shelf). bytes_eq s.name t.name ≡ false) shelves
  pub lanes : All (λ (s : Shelf). All (λ (row : Row). row.place.lane ≡ lane_of (local_of s.name d) row.message.md.priority) s.rows) shelves
  pub sorted : All (λ (s : Shelf). AllPairs (λ (x y : Row). x.place.lane ≤ y.place.lane) s.rows) shelves
  pub distinct : All (λ (s : Shelf). AllPairs (λ (x y : Row). same_ident x.message.ident y.message.ident ≡ false) s.rows) shelves
  pub apart : AllPairs AreApart shelves

-- what a manager is built of from an image, with a place for each receiver that may be bound, and with room for the rows of all its units in doubt
pub record IsBuilt (image : Image) (b : Built) : Type 0 where
  pub defs : b.defs.definitions ≡ image.definitions
  pub queues : b.queues.states ≡ map (state_on image.definitions) image.shelves
  pub senders : b.senders ≡ image.senders
  pub receivers : b.receivers ≡ image.receivers
  pub bound : b.bound.bound ≡ []
  pub seats : AllByRecursion (λ (r : ReceiverSide). has_seat r.channel b.bound.seats ≡ true) image.receivers
  pub rows : sum_by (λ (s : SenderSide). length (listed s.hardened.in_doubt)) image.senders ≤ b.rows.room
  pub incarnation : b.incarnation ≡ image.incarnation
