-- What holds of an image behind each record of its log, by look-up: `IsImage` and `AreKnown` follow.
use Rattle.std.specs.Prelude.{◌≡◌, ℕ, pos, true, List, Option, Some, None, is_some, map}
use Rattle.std.specs.List.{list_any}
use Rattle.mq_message.specs.declared.message.Ident.{Ident}
use Rattle.mq_message.specs.declared.place.Holder.{Holder}
use Rattle.mq_message.specs.declared.place.Holder.TheVariants as holders
use Rattle.mq_queue.specs.declared.row.Row.{Row}
use Rattle.mq_queue.specs.Rows.{same_ident}
use Rattle.mq_objects.specs.declared.object.LocalQueue.{LocalQueue}
use Rattle.mq_objects.specs.declared.object.Definitions.{Definitions}
use Rattle.mq_objects.specs.Names.{local_of, locals_of}
use Rattle.mq_sync.specs.declared.data.InDoubt.{InDoubt}
use Rattle.mq_calls.specs.declared.records.Add.{Add}
use Rattle.mq_calls.specs.declared.records.LogRecord.{LogRecord}
use Rattle.mq_calls.specs.declared.records.LogRecord.TheVariants as records
use Rattle.mq_calls.specs.declared.state.SenderSide.{SenderSide}
use Rattle.mq_calls.specs.declared.state.ReceiverSide.{ReceiverSide}
use Rattle.mq_calls.specs.Reads.{is_persistent, sender_in, in_doubt_of}
use Rattle.mq_calls.specs.Changes.{lane_of, comes_before}
use Rattle.mq_calls.specs.declared.image.Image.{Image}
use Rattle.mq_calls.specs.declared.image.Shelf.{Shelf}
use Rattle.mq_calls.specs.Recovery.{IsListed, listed, routes, IsKnown, IsDoubtKnown, IsSenderSide, IsReceiverSide}
use Rattle.mq_law_log.specs.from_law_manager.Facts.{Mem, Chain, Differ, ident_of, AreOnce, AreLaned, AreSorted}

-- What rows are seen against: the manager's number, the incarnations that have begun, the definitions, units in doubt.
pub record Sight : Type 0 where
  pub number : ℕ
  pub incarnation : ℕ
  pub definitions : Definitions
  pub doubt : List ℕ → Option InDoubt

abbrev pub sight : ℕ → Image → Sight
sight number i = record { number = number; incarnation = i.incarnation; definitions = i.definitions; doubt = λ channel. in_doubt_of (sender_in channel i.senders) }

-- a row is free, or of a unit in doubt that was taken from its queue and lists it
abbrev pub IsHeldIn : (List ℕ → Option InDoubt) → List ℕ → Ident → Option Holder → Type 0
IsHeldIn doubt queue ident None = Unit {0}
IsHeldIn doubt queue ident (Some (holders.Unit n)) = ⊥
IsHeldIn doubt queue ident (Some (holders.Batch channel)) = IsListed queue ident (doubt channel)

pub record IsRowOf (v : Sight) (queue : List ℕ) (row : Row) : Type 0 where
  pub persistent : is_persistent row.message ≡ true
  pub lane : row.place.lane ≡ lane_of (local_of queue v.definitions) row.message.md.priority
  pub uncounted : row.place.arrival ≡ 0
  pub unbacked : row.message.md.backout_count ≡ pos 0
  pub routed : is_some row.message.route ≡ routes (local_of queue v.definitions)
  pub held : IsHeldIn v.doubt queue row.message.ident row.by
  pub doubted : (channel : List ℕ) → list_any (same_ident row.message.ident) (listed (v.doubt channel)) ≡ true → row.by ≡ Some (holders.Batch channel)
  pub known : IsKnown v.number v.incarnation row.message.ident

-- the rows of all shelves
pub record AreShelved (v : Sight) (ss : List Shelf) : Type 0 where
  pub row : (s : Shelf) (h : Row) → Mem s ss → Mem h s.rows → IsRowOf v s.name h
  pub alone : (s t : Shelf) (h k : Row) → Mem s ss → Mem t ss → Mem h s.rows → Mem k t.rows → h.message.ident ≡ k.message.ident → s.name ≡ t.name
  pub laned : (s : Shelf) → Mem s ss → AreLaned s.rows
  pub once : (s : Shelf) → Mem s ss → Differ ident_of s.rows

-- a sender's data, and the idents that it lists
pub record IsSideOf (number incarnation : ℕ) (s : SenderSide) : Type 0 where
  pub side : IsSenderSide s
  pub known : IsDoubtKnown number incarnation s.hardened.in_doubt

abbrev pub AreReceiversSorted : List ReceiverSide → Type 0
AreReceiversSorted sides = Chain (λ (r t : ReceiverSide). comes_before r.channel t.channel ≡ true) sides

pub record IsSoFar (number : ℕ) (i : Image) : Type 0 where
  pub once : AreOnce i.definitions.objects
  pub shelves : map (λ (s : Shelf). s.name) i.shelves ≡ map (λ (q : LocalQueue). q.name) (locals_of i.definitions)
  pub rows : AreShelved (sight number i) i.shelves
  pub senders : (s : SenderSide) → Mem s i.senders → IsSideOf number i.incarnation s
  pub receivers : (r : ReceiverSide) → Mem r i.receivers → IsReceiverSide r
  pub senders_sorted : AreSorted i.senders
  pub receivers_sorted : AreReceiversSorted i.receivers

-- the messages that a record places are persistent
abbrev pub ArePersistent : List Add → Type 0
ArePersistent adds = (a : Add) → Mem a adds → is_persistent a.message ≡ true

abbrev pub IsKept : LogRecord → Type 0
IsKept (records.Unit adds removes) = ArePersistent adds
IsKept (records.Received channel unit last adds) = ArePersistent adds
IsKept (records.Moved from ident to message) = is_persistent message ≡ true
IsKept _ = Unit {0}
