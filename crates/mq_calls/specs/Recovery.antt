-- What an image of a log keeps to: recovery gives no other. With any other a manager would have rows that no later event
-- accounts for.
use Rattle.std.specs.Prelude.{ℕ, pos, ◌≡◌, ◌⊎◌, ◌≤◌, Bool, true, false, List, [], Option, Some, None, is_some, map, All, AllPairs}
use Rattle.std.specs.List.{list_any}
use Rattle.std.specs.Str.{bytes_eq}
use Rattle.mq_queue.specs.from_message.{Holder, Ident}
use Rattle.mq_queue.specs.from_message.HolderVariants as holders
use Rattle.mq_queue.specs.declared.row.Row.{Row}
use Rattle.mq_queue.specs.Rows.{same_ident}
use Rattle.mq_resolve.specs.from_objects.{LocalQueue, Object}
use Rattle.mq_resolve.specs.from_objects.Names.{local_of, locals_of, is_transmission, is_object, space_of, name_of}
use Rattle.mq_sync.specs.declared.unit.Unit.{Unit as Luw}
use Rattle.mq_sync.specs.declared.data.InDoubt.{InDoubt}
use Rattle.mq_sync.specs.Units.{no_unit}
use Rattle.mq_calls.specs.State.{SenderSide, ReceiverSide}
use Rattle.mq_calls.specs.Reads.{is_persistent, sender_in, in_doubt_of}
use Rattle.mq_calls.specs.Changes.{lane_of, comes_before}
use Rattle.mq_calls.specs.Images.{Image, Shelf}

-- a unit's number and session count from 1
pub record IsNumbered (u : Luw) : Type 0 where
  pub session : 1 ≤ u.session
  pub number : 1 ≤ u.n

-- A row is free, or of a unit in doubt that was taken from its queue and lists it.
abbrev pub IsListed : List ℕ → Ident → Option InDoubt → Type 0
IsListed queue ident None = ⊥
IsListed queue ident (Some d) = (d.queue ≡ queue) × (list_any (same_ident ident) d.idents ≡ true)

abbrev pub IsHeldWell : Image → List ℕ → Ident → Option Holder → Type 0
IsHeldWell image queue ident None = Unit {0}
IsHeldWell image queue ident (Some (holders.Unit n)) = ⊥
IsHeldWell image queue ident (Some (holders.Batch channel)) = IsListed queue ident (in_doubt_of (sender_in channel image.senders))

-- what a unit in doubt lists; a row whose ident it lists is its own
abbrev pub listed : Option InDoubt → List Ident
listed None = []
listed (Some d) = d.idents

abbrev pub IsOfDoubt : Row → SenderSide → Type 0
IsOfDoubt row s = list_any (same_ident row.message.ident) (listed s.hardened.in_doubt) ≡ true → row.by ≡ Some (holders.Batch s.channel)

-- messages of a transmission queue have a route, and no others
abbrev pub routes : Option LocalQueue → Bool
routes None = false
routes (Some q) = is_transmission q.usage

-- a row of a queue, as a log keeps it
pub record IsLasting (image : Image) (queue : List ℕ) (row : Row) : Type 0 where
  pub persistent : is_persistent row.message ≡ true
  pub lane : row.place.lane ≡ lane_of (local_of queue image.definitions) row.message.md.priority
  pub uncounted : row.place.arrival ≡ 0
  pub unbacked : row.message.md.backout_count ≡ pos 0
  pub routed : is_some row.message.route ≡ routes (local_of queue image.definitions)
  pub held : IsHeldWell image queue row.message.ident row.by
  pub doubted : All (IsOfDoubt row) image.senders

-- a queue: by lane, each ident once
pub record IsShelf (image : Image) (s : Shelf) : Type 0 where
  pub rows : All (IsLasting image s.name) s.rows
  pub sorted : AllPairs (λ (x y : Row). x.place.lane ≤ y.place.lane) s.rows
  pub distinct : AllPairs (λ (x y : Row). same_ident x.message.ident y.message.ident ≡ false) s.rows

-- no row of one has the ident of a row of the other
abbrev pub AreApart : Shelf → Shelf → Type 0
AreApart s t = All (λ (x : Row). All (λ (y : Row). same_ident x.message.ident y.message.ident ≡ false) t.rows) s.rows

-- A unit in doubt is of a session up to the hardened one, and lists no ident twice. It may list idents that have no row
-- here: those of its nonpersistent messages, which went with a stop, and none else, for one that came back is off its list.
abbrev pub IsDoubtOf : ℕ → Option InDoubt → Type 0
IsDoubtOf session None = Unit {0}
IsDoubtOf session (Some d) = IsNumbered d.unit × (d.unit.session ≤ session) × AllPairs (λ (x y : Ident). same_ident x y ≡ false) d.idents

abbrev pub IsSenderSide : SenderSide → Type 0
IsSenderSide s = IsDoubtOf s.hardened.session s.hardened.in_doubt

-- a receiver's last unit is none, or of a session that it has had
abbrev pub IsReceiverSide : ReceiverSide → Type 0
IsReceiverSide r = (r.hardened.unit.session ≤ r.hardened.session) × ((r.hardened.unit ≡ no_unit) ⊎ IsNumbered r.hardened.unit)

-- An image of a log.
pub record IsImage (image : Image) : Type 0 where
  -- no name of a space of objects stands twice
  pub once : AllPairs (λ (a b : Object). is_object (space_of a) (name_of a) b ≡ false) image.definitions.objects
  -- one shelf for each local queue, in order of definition; their names differ
  pub shelves : map (λ (s : Shelf). s.name) image.shelves ≡ map (λ (q : LocalQueue). q.name) (locals_of image.definitions)
  pub named : AllPairs (λ (s t : Shelf). bytes_eq s.name t.name ≡ false) image.shelves
  pub rows : All (IsShelf image) image.shelves
  pub apart : AllPairs AreApart image.shelves
  -- channel data, in order of the channels' names
  pub senders : All IsSenderSide image.senders
  pub receivers : All IsReceiverSide image.receivers
  pub senders_sorted : AllPairs (λ (s t : SenderSide). comes_before s.channel t.channel ≡ true) image.senders
  pub receivers_sorted : AllPairs (λ (r t : ReceiverSide). comes_before r.channel t.channel ≡ true) image.receivers

-- The log knew the incarnations of its manager's own idents: of those of rows, and of those that units in doubt list. The
-- check that logs belong together says so of the rows of all managers.
abbrev pub IsKnown : ℕ → ℕ → Ident → Type 0
IsKnown number incarnation ident = ident.manager ≡ number → ident.incarnation ≤ incarnation

abbrev pub IsDoubtKnown : ℕ → ℕ → Option InDoubt → Type 0
IsDoubtKnown number incarnation None = Unit {0}
IsDoubtKnown number incarnation (Some d) = All (IsKnown number incarnation) d.idents

pub record AreKnown (number : ℕ) (image : Image) : Type 0 where
  pub rows : All (λ (s : Shelf). All (λ (row : Row). IsKnown number image.incarnation row.message.ident) s.rows) image.shelves
  pub doubts : All (λ (s : SenderSide). IsDoubtKnown number image.incarnation s.hardened.in_doubt) image.senders
