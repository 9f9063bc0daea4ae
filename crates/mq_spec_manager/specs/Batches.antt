-- A sender's batch: rows are held, released, or prepared as the unit in doubt.
use Rattle.std.specs.Option.{option_map}
use Rattle.std.specs.Prelude.{ℕ, zero, suc, false, List, [], ◌∷◌, Option, Some, None, length, map, take, find, slice_get}
use Rattle.mq_sc_apply.specs.from_calls.Words.{Ident, Message, sender_or, data_prepared, InDoubt, SenderData, Luw, stored, sender_data, free_rows, batch_of, is_full, need, Plain, Change, Among, HeldBy, Step, when, tested, say, Do, has_ident, Row}
use Rattle.mq_sc_apply.specs.from_calls.{Batch, LogRecord, PrepareFault}
use Rattle.mq_heads.specs.from_message.HolderVariants as holders
use Rattle.mq_sc_apply.specs.from_calls.PrepareFaultVariants as prepare_faults
use Rattle.mq_sc_apply.specs.from_calls.DidVariants as did
use Rattle.mq_sc_apply.specs.from_calls.LogRecordVariants as records
use Rattle.mq_sc_apply.specs.from_calls.State.Change.{Hold, Release, SetSender, AddBatch, DropBatch}
use Rattle.mq_spec_manager.specs.Words.{idents_of, Never}
use Rattle.mq_spec_manager.specs.Seizing.{queue_of_sender}

-- Batches. The first free rows are held, at most so many.
abbrev pub hold_rows : List ℕ → Luw → List ℕ → List Ident → Step Never ℕ
hold_rows channel unit queue idents = Do (length idents) (record {
  forced = None;
  changes = Hold (Among queue idents) (holders.Batch channel) ∷ AddBatch (record { channel = channel; unit = unit; queue = queue; idents = idents }) ∷ [];
  delta = map (λ ident. did.Held queue ident (holders.Batch channel)) idents;
} ∷ [])

abbrev pub hold_batch : List ℕ → Luw → ℕ → Plain → Step Never ℕ
hold_batch channel unit most p =
    hold_rows channel unit (queue_of_sender channel p) (idents_of (take most (free_rows (queue_of_sender channel p) p)))

-- the row of a number in the batch, from 1
abbrev pub batch_idents : Option Batch → List Ident
batch_idents None = []
batch_idents (Some b) = b.idents

abbrev pub batch_queue : Option Batch → List ℕ
batch_queue None = []
batch_queue (Some b) = b.queue

abbrev pub row_with : Option Ident → List Row → Option Message
row_with None rows = None
row_with (Some ident) rows = option_map (λ (row : Row). row.message) (find (has_ident ident) rows)

abbrev pub at_number : ℕ → List Ident → Option Ident
at_number zero idents = None
at_number (suc n) idents = slice_get idents n

abbrev pub batch_row : List ℕ → ℕ → Plain → Option Message
batch_row channel index p =
    row_with (at_number index (batch_idents (batch_of channel p.channels.batches))) (stored (batch_queue (batch_of channel p.channels.batches)) p).rows

-- a batch that is not prepared is released
abbrev pub release_of : List ℕ → Option Batch → Step Never (Unit {0})
release_of channel None = say tt
release_of channel (Some b) = Do tt (record {
  forced = None;
  changes = Release (HeldBy (holders.Batch channel)) false ∷ DropBatch channel ∷ [];
  delta = map (λ ident. did.Released b.queue ident) b.idents;
} ∷ [])

abbrev pub release_batch : List ℕ → Plain → Step Never (Unit {0})
release_batch channel p = release_of channel (batch_of channel p.channels.batches)

-- Prepare: the batch becomes the unit in doubt.
abbrev pub prepared_record : List ℕ → ℕ → Batch → LogRecord
prepared_record channel last b = records.Prepared channel b.unit last b.queue b.idents

abbrev pub prepared_doubt : ℕ → Batch → InDoubt
prepared_doubt last b = record { unit = b.unit; queue = b.queue; idents = b.idents; last = last }

abbrev pub prepared_changes : List ℕ → ℕ → Batch → SenderData → List Change
prepared_changes channel last b d = SetSender channel (data_prepared (prepared_doubt last b) d) ∷ DropBatch channel ∷ []

abbrev pub prepare_of : List ℕ → ℕ → Option Batch → Plain → Step PrepareFault (Unit {0})
prepare_of channel last None p = say tt
prepare_of channel last (Some b) p = tested (
    when (is_full (need (prepared_record channel last b)) p) prepare_faults.NoRoom
    ∷ [])
    (Do tt (record {
      forced = Some (prepared_record channel last b);
      changes = prepared_changes channel last b (sender_or (sender_data channel p));
      delta = did.Prepared channel b.unit ∷ [];
    } ∷ []))

abbrev pub prepare : List ℕ → ℕ → Plain → Step PrepareFault (Unit {0})
prepare channel last p = prepare_of channel last (batch_of channel p.channels.batches) p
