-- What the calls of channel ends and of the handler ask.
use Rattle.std.specs.List.{list_any, AllByRecursion}
use Rattle.std.specs.Option.{option_map}
use Rattle.std.specs.Prelude.{AllPairs, ℕ, Bool, true, false, not, ◌&&◌, List, [], ◌∷◌, Option, Some, None, find, ◌≡◌, ◌<◌, ◌≤◌, IsSome, is_some}
use Rattle.mq_sc_apply.specs.from_calls.Words.{Ident, LocalQueue, sender_or, receiver_or, Below, InDoubt, Luw, rests_by, stored, sender_data, receiver_data, seizure_of, batch_of, in_doubt_of, is_up, Plain, Queue, same_ident, has_ident, held_by, Row, local_of, channel_of, is_transmission}
use Rattle.mq_sc_apply.specs.from_calls.{Batch, Note}
use Rattle.mq_sc_apply.specs.from_calls.Recovery.{IsNumbered}
use Rattle.mq_heads.specs.from_message.HolderVariants as holders
use Rattle.mq_sc_apply.specs.from_sync.EndVariants as ends
use Rattle.mq_sc_apply.specs.from_calls.NoteVariants as notes
use Rattle.mq_spec_manager.specs.Words.{is_dead}
use Rattle.mq_spec_manager.specs.Seizing.{is_sender, is_receiver}

-- What the calls of channel ends and of the handler ask of a manager that is up. Whoever makes the call has seen to it.
abbrev pub IsUp : Plain → Type 0
IsUp p = is_up p.running ≡ true

-- seize, receive: the end is defined here
abbrev pub IsSenderHere : List ℕ → Plain → Type 0
IsSenderHere channel p = is_sender (channel_of channel p.definitions) ≡ true

abbrev pub IsReceiverHere : List ℕ → Plain → Type 0
IsReceiverHere channel p = is_receiver (channel_of channel p.definitions) ≡ true

-- stock, expire, hold_batch: the channel has seized its queue
abbrev pub HasSeized : List ℕ → Plain → Type 0
HasSeized channel p = IsSome (seizure_of channel p.channels.seizures)

-- prepare, release_batch: it has a batch that is not prepared
abbrev pub HasBatch : List ℕ → Plain → Type 0
HasBatch channel p = IsSome (batch_of channel p.channels.batches)

abbrev pub HasNoBatch : List ℕ → Plain → Type 0
HasNoBatch channel p = batch_of channel p.channels.batches ≡ None

abbrev pub HasNoDoubt : List ℕ → Plain → Type 0
HasNoDoubt channel p = in_doubt_of (sender_data channel p) ≡ None

abbrev pub HoldsNone : List ℕ → Queue → Type 0
HoldsNone channel q = AllByRecursion (λ (row : Row). held_by (holders.Batch channel) row.by ≡ false) q.rows

-- hold_batch: the channel holds nothing
pub record CanHold (channel : List ℕ) (p : Plain) : Type 0 where
  pub seized : HasSeized channel p
  pub batch : HasNoBatch channel p
  pub doubt : HasNoDoubt channel p
  pub rows : AllByRecursion (HoldsNone channel) p.queues

-- a row of one of the idents is a unit's in doubt
abbrev pub is_row_in_doubt : List Batch → List Ident → Row → Bool
is_row_in_doubt bs idents row = is_some (rests_by bs row.by) && list_any (same_ident row.message.ident) idents

abbrev pub NoneInDoubt : List Batch → List Ident → Queue → Type 0
NoneInDoubt bs idents q = AllByRecursion (λ (row : Row). is_row_in_doubt bs idents row ≡ false) q.rows

-- prepare: the batch can be a unit in doubt
pub record IsPreparable (b : Batch) (channel : List ℕ) (p : Plain) : Type 0 where
  pub unit : IsNumbered b.unit
  pub session : b.unit.session ≤ (sender_or (sender_data channel p)).session
  pub doubt : HasNoDoubt channel p
  pub apart : AllPairs (λ (x y : Ident). same_ident x y ≡ false) b.idents
  pub rows : AllByRecursion (NoneInDoubt p.channels.batches b.idents) p.queues

pub record CanPrepare (channel : List ℕ) (p : Plain) : Type 0 where
  pub batch : Batch
  pub own : batch_of channel p.channels.batches ≡ Some batch
  pub fits : IsPreparable batch channel p

-- harden: sessions rise; a session is closed once; the unit in doubt is the one that is settled, and no batch is held
-- beside it; a number is set where nothing is in doubt
abbrev pub unit_of : InDoubt → Luw
unit_of d = d.unit

abbrev pub CanHarden : List ℕ → Note → Plain → Type 0
CanHarden channel (notes.Session partner session) p = (sender_or (sender_data channel p)).session < session
CanHarden channel (notes.Resolved unit commit operator) p =
    (option_map unit_of (in_doubt_of (sender_data channel p)) ≡ Some unit) × HasNoBatch channel p
CanHarden channel (notes.Bound partner session last) p = (receiver_or (receiver_data channel p)).session < session
CanHarden channel (notes.Closed session) p =
    (0 < session) × (session ≡ (receiver_or (receiver_data channel p)).session) × ((receiver_or (receiver_data channel p)).closed ≡ false)
CanHarden channel (notes.SeqSet ends.Sender last) p = HasNoDoubt channel p
CanHarden channel (notes.SeqSet ends.Receiver last) p = Unit {0}

-- receive: the unit is above the last one, of the kept session, which is open
pub record CanReceive (channel : List ℕ) (unit : Luw) (p : Plain) : Type 0 where
  pub here : IsReceiverHere channel p
  pub named : IsNumbered unit
  pub session : unit.session ≡ (receiver_or (receiver_data channel p)).session
  pub live : (receiver_or (receiver_data channel p)).closed ≡ false
  pub above : Below (receiver_or (receiver_data channel p)).unit unit

-- move_row, discard: an ordinary local queue, on which a row of the ident is free
abbrev pub is_ordinary : Option LocalQueue → Bool
is_ordinary None = false
is_ordinary (Some q) = not (is_transmission q.usage)

pub record HasFreeRow (queue : List ℕ) (ident : Ident) (p : Plain) : Type 0 where
  pub row : Row
  pub ordinary : is_ordinary (local_of queue p.definitions) ≡ true
  pub found : find (has_ident ident) (stored queue p).rows ≡ Some row
  pub free : row.by ≡ None

-- where its header goes, it has one
pub record CanMove (queue : List ℕ) (ident : Ident) (bare : Bool) (p : Plain) : Type 0 where
  pub free : HasFreeRow queue ident p
  pub dead : bare ≡ true → is_dead free.row.message.body ≡ true
