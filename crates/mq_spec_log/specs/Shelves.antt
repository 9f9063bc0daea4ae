-- What is ever done to an image: rows of its queues are placed, kept and retagged, and hardened data of channels are set.
use Rattle.std.specs.Prelude.{ℕ, not, ◌&&◌, List, [], ◌∷◌, if◌then◌else◌, Option, Some, None}
use Rattle.std.specs.Str.{bytes_eq}
use Rattle.mq_record.specs.from_message.{Holder, Ident, Message}
use Rattle.mq_record.specs.from_queue.{Row}
use Rattle.mq_record.specs.from_queue.Rows.{has_ident, insert_row, keep, retag, is_free, held_by}
use Rattle.mq_objects.specs.Names.{local_of}
use Rattle.mq_sync.specs.declared.data.SenderData.{SenderData}
use Rattle.mq_sync.specs.declared.data.ReceiverData.{ReceiverData}
use Rattle.mq_sync.specs.Settlement.{sender_or, receiver_or}
use Rattle.mq_record.specs.from_calls.{Add, Image, Remove, Shelf}
use Rattle.mq_record.specs.from_calls.State.{Which}
use Rattle.mq_record.specs.from_calls.State.Which.{Among}
use Rattle.mq_record.specs.from_calls.Reads.{sender_in, receiver_in}
use Rattle.mq_record.specs.from_calls.Changes.{selects, lane_of, new_row, retag_if, off_lists, set_sender, set_receiver}
use Rattle.mq_record.specs.from_calls.Images.{uncounted_message}

-- ---- shelves by name
abbrev pub shelf_in : List ℕ → List Shelf → Shelf
shelf_in name [] = record { name = name; rows = [] }
shelf_in name (s ∷ ss) = if bytes_eq name s.name then s else shelf_in name ss

abbrev pub set_shelf : Shelf → List Shelf → List Shelf
set_shelf new [] = new ∷ []
set_shelf new (s ∷ ss) = if bytes_eq new.name s.name then new ∷ ss else s ∷ set_shelf new ss

abbrev pub on_all : (Shelf → Shelf) → List Shelf → List Shelf
on_all f [] = []
on_all f (s ∷ ss) = f s ∷ on_all f ss

abbrev pub on_shelves : (List Shelf → List Shelf) → Image → Image
on_shelves f i = record i { shelves = f i.shelves }

-- ---- rows are placed, kept or retagged
abbrev pub shelved_in : ℕ → Message → Shelf → Shelf
shelved_in lane m s = record s { rows = insert_row (new_row lane 0 (uncounted_message m)) s.rows }

abbrev pub shelved : List ℕ → Message → Image → Image
shelved queue m i = on_shelves (λ ss. set_shelf (shelved_in (lane_of (local_of queue i.definitions) m.md.priority) m (shelf_in queue ss)) ss) i

abbrev pub less_rows : Which → Shelf → Shelf
less_rows which s = record s { rows = keep (λ (row : Row). not (selects which s.name row)) s.rows }

abbrev pub left : Which → Image → Image
left which i = on_shelves (on_all (less_rows which)) i

abbrev pub freed_row : Holder → Row → Row
freed_row by row = if held_by by row.by then record row { by = None } else row

abbrev pub freed_rows : Holder → Shelf → Shelf
freed_rows by s = record s { rows = retag (freed_row by) s.rows }

abbrev pub held_rows : Which → Holder → Shelf → Shelf
held_rows which by s = record s { rows = retag (λ (row : Row). retag_if (selects which s.name row && is_free row) (Some by) row) s.rows }

-- an add drops the row of its ident that a unit in doubt holds, and takes the ident off each list
abbrev pub without_ident : Ident → Shelf → Shelf
without_ident ident s = record s { rows = keep (λ (row : Row). not (has_ident ident row)) s.rows }

abbrev pub cleared : Ident → Image → Image
cleared ident i = record i { shelves = on_all (without_ident ident) i.shelves; senders = off_lists ident i.senders }

abbrev pub added : Add → Image → Image
added a i = shelved a.queue a.message (cleared a.message.ident i)

abbrev pub removed : Remove → Image → Image
removed r i = left (Among r.queue (r.ident ∷ [])) i

abbrev pub added_all : List Add → Image → Image
added_all [] i = i
added_all (a ∷ as_) i = added_all as_ (added a i)

abbrev pub removed_all : List Remove → Image → Image
removed_all [] i = i
removed_all (r ∷ rs) i = removed_all rs (removed r i)

-- ---- data of channels
abbrev pub sender_at : List ℕ → Image → SenderData
sender_at channel i = sender_or (sender_in channel i.senders)

abbrev pub receiver_at : List ℕ → Image → ReceiverData
receiver_at channel i = receiver_or (receiver_in channel i.receivers)

abbrev pub with_sender : List ℕ → SenderData → Image → Image
with_sender channel d i = record i { senders = set_sender (record { channel = channel; hardened = d }) i.senders }

abbrev pub with_receiver : List ℕ → ReceiverData → Image → Image
with_receiver channel d i = record i { receivers = set_receiver (record { channel = channel; hardened = d }) i.receivers }
