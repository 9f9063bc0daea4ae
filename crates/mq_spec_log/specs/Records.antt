-- What a record of the log does to an image.
use Rattle.std.specs.Prelude.{ℕ, ◌==◌, max, Bool, true, false, not, ◌||◌, List, [], ◌∷◌, Option, Some, None, filter}
use Rattle.std.specs.Str.{bytes_eq}
use Rattle.mq_record.specs.from_message.HolderVariants as holders
use Rattle.mq_objects.specs.declared.object.LocalQueue.{LocalQueue}
use Rattle.mq_objects.specs.declared.object.Object.TheVariants as objects
use Rattle.mq_objects.specs.declared.object.Definitions.{Definitions}
use Rattle.mq_objects.specs.declared.command.Subject.TheVariants as subjects
use Rattle.mq_objects.specs.declared.change.ObjectChange.{ObjectChange}
use Rattle.mq_objects.specs.declared.change.ObjectChange.TheVariants as changes
use Rattle.mq_objects.specs.Names.{local_of}
use Rattle.mq_objects.specs.Changed.{changed}
use Rattle.mq_sync.specs.declared.data.End.{End}
use Rattle.mq_sync.specs.declared.data.End.TheVariants as ends
use Rattle.mq_sync.specs.Settlement.{data_prepared, data_settled, settle_by}
use Rattle.mq_record.specs.from_calls.{Image, LogRecord, Shelf}
use Rattle.mq_record.specs.from_calls.LogRecordVariants as records
use Rattle.mq_record.specs.from_calls.State.Which.{Among, HeldBy}
use Rattle.mq_spec_log.specs.Shelves.{set_shelf, on_all, on_shelves, left, freed_rows, held_rows, added, removed, added_all, removed_all, sender_at, receiver_at, with_sender, with_receiver}

-- a unit in doubt is settled: its rows go, or are free again
abbrev pub settled_rows : Bool → List ℕ → Image → Image
settled_rows true channel i = left (HeldBy (holders.Batch channel)) i
settled_rows false channel i = on_shelves (on_all (freed_rows (holders.Batch channel))) i

abbrev pub set_number : End → ℕ → List ℕ → Image → Image
set_number ends.Sender last channel i = with_sender channel (record (sender_at channel i) { last = last; force = true }) i
set_number ends.Receiver last channel i = with_receiver channel (record (receiver_at channel i) { last = last }) i

-- a local queue that is new has an empty shelf, one that goes has none
abbrev pub shelf_if : Option LocalQueue → List ℕ → List Shelf → List Shelf
shelf_if None name ss = set_shelf (record { name = name; rows = [] }) ss
shelf_if (Some q) name ss = ss

abbrev pub shelves_after : ObjectChange → Definitions → List Shelf → List Shelf
shelves_after (changes.Set (objects.Local q)) d ss = shelf_if (local_of q.name d) q.name ss
shelves_after (changes.Delete (subjects.Local name)) d ss = filter (λ (s : Shelf). not (bytes_eq name s.name)) ss
shelves_after _ d ss = ss

-- a Started says at least which incarnation there was; a commit removes and then adds; the row of a move leaves before it is added
abbrev pub doing : LogRecord → Image → Image
doing (records.Started manager name incarnation) i = record i { incarnation = max i.incarnation incarnation }
doing (records.Objects change) i = record i { definitions = changed change i.definitions; shelves = shelves_after change i.definitions i.shelves }
doing (records.Unit adds removes) i = added_all adds (removed_all removes i)
doing (records.Session channel partner session) i = with_sender channel (record (sender_at channel i) { partner = partner; session = session }) i
doing (records.Prepared channel unit last queue idents) i =
    with_sender channel (data_prepared (record { unit = unit; queue = queue; idents = idents; last = last }) (sender_at channel i))
    (on_shelves (on_all (held_rows (Among queue idents) (holders.Batch channel))) i)
doing (records.Resolved channel unit commit operator) i = with_sender channel (data_settled (Some (settle_by commit)) (sender_at channel i)) (settled_rows commit channel i)
doing (records.Bound channel partner session last) i = with_receiver channel (record (receiver_at channel i) { partner = partner; session = session; closed = false; last = last }) i
doing (records.Closed channel session) i = with_receiver channel (record (receiver_at channel i) { closed = (receiver_at channel i).closed || session == (receiver_at channel i).session }) i
doing (records.Received channel unit last adds) i = (λ (j : Image). with_receiver channel (record (receiver_at channel j) { unit = unit; last = last }) j) (added_all adds i)
doing (records.SeqSet channel end last) i = set_number end last channel i
doing (records.Moved from ident to message) i = added (record { queue = to; message = message }) (removed (record { queue = from; ident = ident }) i)
