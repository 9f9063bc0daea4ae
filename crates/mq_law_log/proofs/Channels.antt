-- What channel ends harden.
use Rattle.std.proofs.Common.{ℕ, ◌≡◌, Bool, true, false, List, refl, ap, sym}
use Rattle.std.specs.Prelude.{Option, Some, None, not, nat_lt, is_some, ◌&&◌, ◌||◌, ◌==◌, if◌then◌else◌}
use Rattle.std.specs.Str.{bytes_eq}
use Rattle.mq_message.specs.declared.place.Holder.{Holder}
use Rattle.mq_message.specs.declared.place.Holder.TheVariants as holders
use Rattle.mq_queue.specs.declared.row.Row.{Row}
use Rattle.mq_queue.specs.Rows.{held_by, is_free}
use Rattle.mq_sync.specs.declared.unit.Unit.{Unit as Luw}
use Rattle.mq_sync.specs.declared.data.End.{End}
use Rattle.mq_sync.specs.declared.data.SenderData.{SenderData}
use Rattle.mq_sync.specs.declared.data.InDoubt.{InDoubt}
use Rattle.mq_sync.specs.declared.data.End.TheVariants as ends
use Rattle.mq_calls.specs.declared.agents.Note.TheVariants as notes
use Rattle.mq_calls.specs.State.{Plain, Queue}
use Rattle.mq_calls.specs.declared.state.Batch.{Batch}
use Rattle.mq_calls.specs.State.Which.{HeldBy}
use Rattle.mq_calls.specs.Reads.{is_persistent, sender_data, receiver_data, in_doubt_of}
use Rattle.mq_calls.specs.Changes.{apply, kept_in, released_in, release_if}
use Rattle.mq_spec_manager.specs.Agents.{harden_part, settle_change}
use Rattle.mq_sync.specs.Settlement.{sender_or, receiver_or, data_settled, settle_by}
use Rattle.mq_calls.specs.Images.{lasting, lasting_row, rests_by, shelf_of, has_batch}
use Rattle.mq_calls.specs.declared.image.Shelf.{Shelf}
use Rattle.mq_calls.specs.declared.image.Image.{Image}
use Rattle.mq_spec_log.specs.Shelves.{less_rows, freed_row, freed_rows, with_sender, with_receiver}
use Rattle.mq_spec_log.specs.Records.{settled_rows}
use Rattle.mq_spec_log.specs.Applies.{is_unit_in_doubt}
use Rattle.mq_law_log.specs.Keeps.{Does}
use Rattle.mq_law_log.proofs.Rows.{bool_case, name_is, rows_kept, rows_tagged}
use Rattle.mq_law_log.proofs.Shelves.{shelves_mapped}

pub session_does : (channel partner : List ℕ) (session : ℕ) (p : Plain) → nat_lt (sender_or (sender_data channel p)).session session ≡ true → Does (harden_part channel (notes.Session partner session) p) p
session_does channel partner session p h = (h, refl)

pub bound_does : (channel partner : List ℕ) (session last : ℕ) (p : Plain) → nat_lt (receiver_or (receiver_data channel p)).session session ≡ true → Does (harden_part channel (notes.Bound partner session last) p) p
bound_does channel partner session last p h = (h, refl)

either : (b c : Bool) → c ≡ true → true ≡ (b || c)
either true c e = refl
either false c e = sym e

pub closed_does : (channel : List ℕ) (session : ℕ) (p : Plain) → nat_lt 0 session ≡ true → (session == (receiver_or (receiver_data channel p)).session) ≡ true → Does (harden_part channel (notes.Closed session) p) p
closed_does channel session p h e = (h, ap (λ (b : Bool). with_receiver channel (record (receiver_or (receiver_data channel p)) { closed = b }) (lasting p)) (either (receiver_or (receiver_data channel p)).closed (session == (receiver_or (receiver_data channel p)).session) e))

pub number_does : (channel : List ℕ) (end : End) (last : ℕ) (p : Plain) → in_doubt_of (sender_data channel p) ≡ None → Does (harden_part channel (notes.SeqSet end last) p) p
number_does channel ends.Sender last p h = (undoubted (sender_data channel p) h, refl)
  where
    undoubted : (d : Option SenderData) → in_doubt_of d ≡ None → not (is_some (sender_or d).in_doubt) ≡ true
    undoubted None h = refl
    undoubted (Some d) h = ap (λ (x : Option InDoubt). not (is_some x)) h
number_does channel ends.Receiver last p h = (refl, refl)

-- a channel whose batch isn't one that a stop gives back
held_last : (bs : List Batch) (channel : List ℕ) (by : Option Holder) → has_batch channel bs ≡ false → held_by (holders.Batch channel) (rests_by bs by) ≡ held_by (holders.Batch channel) by
held_last bs channel None h = refl
held_last bs channel (Some (holders.Unit n)) h = refl
held_last bs channel (Some (holders.Batch c)) h = bool_case (has_batch c bs) (λ b. has_batch c bs ≡ b → held_by (holders.Batch channel) (if b then None else Some (holders.Batch c)) ≡ bytes_eq channel c)
    (λ y z. bool_case (bytes_eq channel c) (λ b. bytes_eq channel c ≡ b → false ≡ b) (λ w e. absurd (cc (h, z, name_is channel c e))) (λ w e. refl) refl)
    (λ y z. refl) refl

freed_last : (bs : List Batch) (channel : List ℕ) (row : Row) → has_batch channel bs ≡ false
    → lasting_row bs (release_if (held_by (holders.Batch channel) row.by && not (is_free row)) false row) ≡ freed_row (holders.Batch channel) (lasting_row bs row)
freed_last bs channel row h = by_holder row.by
  where
    by_holder : (by : Option Holder) → lasting_row bs (release_if (held_by (holders.Batch channel) by && not (is_free (record row { by = by }))) false (record row { by = by })) ≡ freed_row (holders.Batch channel) (lasting_row bs (record row { by = by }))
    by_holder None = refl
    by_holder (Some (holders.Unit n)) = refl
    by_holder (Some (holders.Batch c)) = bool_case (bytes_eq channel c)
        (λ b. held_by (holders.Batch channel) (rests_by bs (Some (holders.Batch c))) ≡ b
        → lasting_row bs (release_if (b && true) false (record row { by = Some (holders.Batch c) })) ≡ (if held_by (holders.Batch channel) (rests_by bs (Some (holders.Batch c))) then record (lasting_row bs row) { by = None } else lasting_row bs (record row { by = Some (holders.Batch c) })))
        (λ e z. sym (ap (λ (b : Bool). if b then record (lasting_row bs row) { by = None } else lasting_row bs (record row { by = Some (holders.Batch c) })) z))
        (λ e z. sym (ap (λ (b : Bool). if b then record (lasting_row bs row) { by = None } else lasting_row bs (record row { by = Some (holders.Batch c) })) z))
        (held_last bs channel (Some (holders.Batch c)) h)

released_persists : (b : Bool) (row : Row) → is_persistent (release_if b false row).message ≡ is_persistent row.message
released_persists true row = refl
released_persists false row = refl

pub settled_lasts : (commit : Bool) (channel : List ℕ) (p : Plain) → has_batch channel p.channels.batches ≡ false → lasting (apply (settle_change commit channel) p) ≡ settled_rows commit channel (lasting p)
settled_lasts true channel p h = ap (λ (x : List Shelf). record (lasting p) { shelves = x })
    (shelves_mapped p.channels.batches p.channels.batches (kept_in (HeldBy (holders.Batch channel))) (less_rows (HeldBy (holders.Batch channel)))
    (λ (q : Queue). ap (λ (x : List Row). record (shelf_of p.channels.batches q) { rows = x })
    (rows_kept p.channels.batches (λ (row : Row). not (held_by (holders.Batch channel) row.by)) (λ row. ap (λ (b : Bool). not b) (held_last p.channels.batches channel row.by h)) q.rows)) p.queues)
settled_lasts false channel p h = ap (λ (x : List Shelf). record (lasting p) { shelves = x })
    (shelves_mapped p.channels.batches p.channels.batches (released_in (HeldBy (holders.Batch channel)) false) (freed_rows (holders.Batch channel))
    (λ (q : Queue). ap (λ (x : List Row). record (shelf_of p.channels.batches q) { rows = x })
    (rows_tagged p.channels.batches (λ (row : Row). release_if (held_by (holders.Batch channel) row.by && not (is_free row)) false row) (freed_row (holders.Batch channel))
    (λ row. freed_last p.channels.batches channel row h) (λ row. released_persists (held_by (holders.Batch channel) row.by && not (is_free row)) row) q.rows)) p.queues)

pub resolved_does : (channel : List ℕ) (unit : Luw) (commit operator : Bool) (p : Plain) → has_batch channel p.channels.batches ≡ false → is_unit_in_doubt unit (sender_or (sender_data channel p)).in_doubt ≡ true
    → Does (harden_part channel (notes.Resolved unit commit operator) p) p
resolved_does channel unit true operator p h e = (e, ap (λ (i : Image). with_sender channel (data_settled (Some (settle_by true)) (sender_or (sender_data channel p))) i) (settled_lasts true channel p h))
resolved_does channel unit false operator p h e = (e, ap (λ (i : Image). with_sender channel (data_settled (Some (settle_by false)) (sender_or (sender_data channel p))) i) (settled_lasts false channel p h))
