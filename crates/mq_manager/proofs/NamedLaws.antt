-- A log tells nothing of a channel whose name is blank: so what a channel end can close or settle has a name.
use Rattle.std.proofs.Common.{◌≡◌, ℕ, ◌+◌, ◌<◌, Bool, true, false, List, [], ◌∷◌, length, refl, ap, arith, sym, subst}
use Rattle.std.specs.Prelude.{Option, Some, None, Result, Ok, Err, if◌then◌else◌, ◌||◌, ◌==◌}
use Rattle.std.specs.List.{AllByRecursion}
use Rattle.std.specs.Option.{option_map}
use Rattle.std.specs.Str.{bytes_eq}
use Rattle.mq_message.specs.declared.message.Ident.{Ident}
use Rattle.mq_message.specs.declared.place.Holder.TheVariants as holders
use Rattle.mq_objects.specs.declared.change.ObjectChange.{ObjectChange}
use Rattle.mq_sync.specs.declared.data.End.TheVariants as ends
use Rattle.mq_sync.specs.declared.data.SenderData.{SenderData}
use Rattle.mq_sync.specs.declared.data.ReceiverData.{ReceiverData}
use Rattle.mq_sync.specs.Settlement.{data_prepared, data_settled, settle_by}
use Rattle.mq_frame.specs.declared.fault.Miss.{Miss}
use Rattle.mq_frame.specs.Reading.{IsBytes}
use Rattle.mq_record.specs.declared.record.WrittenRecord.{WrittenRecord}
use Rattle.mq_record.specs.declared.record.WrittenRecord.TheVariants as written
use Rattle.mq_record.specs.Reading.{record_at}
use Rattle.mq_record.specs.Records.{IsRecord, IsWritten}
use Rattle.mq_record.proofs.KindLaws.{record_got}
use Rattle.mq_calls.specs.declared.agents.Note.{Note}
use Rattle.mq_calls.specs.declared.agents.Note.TheVariants as notes
use Rattle.mq_calls.specs.declared.records.Add.{Add}
use Rattle.mq_calls.specs.declared.records.Remove.{Remove}
use Rattle.mq_calls.specs.declared.records.LogRecord.{LogRecord}
use Rattle.mq_calls.specs.declared.records.LogRecord.TheVariants as records
use Rattle.mq_calls.specs.declared.state.SenderSide.{SenderSide}
use Rattle.mq_calls.specs.declared.state.ReceiverSide.{ReceiverSide}
use Rattle.mq_calls.specs.Changes.{comes_before, set_named, off_lists}
use Rattle.mq_calls.specs.Images.{lasting}
use Rattle.mq_calls.specs.Reads.{sender_in, receiver_in, sender_data, receiver_data, in_doubt_of}
use Rattle.mq_calls.specs.State.{Given, Plain}
use Rattle.mq_calls.specs.State.Which.{Among}
use Rattle.mq_calls.specs.declared.image.Image.{Image}
use Rattle.mq_calls.specs.Words.{Luw, receiver_or}
use Rattle.mq_log.specs.Bodies.{frame}
use Rattle.mq_spec_manager.specs.Agents.{CanHarden, unit_of}
use Rattle.mq_law_log.specs.from_spec_log.Applies.{Start, applies}
use Rattle.mq_law_log.specs.from_spec_log.Shelves.{added, added_all, removed, removed_all, with_sender, with_receiver, sender_at, receiver_at, on_shelves, on_all, held_rows}
use Rattle.mq_law_log.specs.from_spec_log.Records.{doing, settled_rows}
use Rattle.mq_law_log.specs.from_spec_log.Bodies.{changing, meaning, meaning_of, record_of, behind, or_place, image_from, begins, image, empty_image}
use Rattle.mq_law_manager.proofs.Lists.{bool_case}
use Rattle.mq_law_manager.proofs.Named.{name_is}
use Rattle.mq_manager.specs.Named.{HaveNames, AreNamedSides, HasChannel}
use Rattle.mq_manager.specs.Reads.{IsEnding}

-- ---- what a record does to what was hardened

set_names : {A : Type 0} (name : A → List ℕ) (new : A) (xs : List A) → 0 < length (name new) → HaveNames name xs → HaveNames name (set_named name new xs)
set_names name new [] n h = (n, tt)
set_names name new (y ∷ ys) n h = bool_case (bytes_eq (name new) (name y))
    (λ b. HaveNames name (if b then new ∷ ys else (if comes_before (name new) (name y) then new ∷ y ∷ ys else y ∷ set_named name new ys)))
    (λ z. (n, h.1))
    (λ z. bool_case (comes_before (name new) (name y)) (λ b. HaveNames name (if b then new ∷ y ∷ ys else y ∷ set_named name new ys)) (λ u. (n, h)) (λ u. (h.0, set_names name new ys n h.1)))

off_names : (i : Ident) (sides : List SenderSide) → HaveNames (λ (s : SenderSide). s.channel) sides → HaveNames (λ (s : SenderSide). s.channel) (off_lists i sides)
off_names i [] h = tt
off_names i (s ∷ ss) h = (h.0, off_names i ss h.1)

sender_names : (channel : List ℕ) (d : SenderData) (i : Image) → 0 < length channel → AreNamedSides i → AreNamedSides (with_sender channel d i)
sender_names channel d i n h = record { senders = set_names (λ (s : SenderSide). s.channel) (record { channel = channel; hardened = d }) i.senders n h.senders; receivers = h.receivers }

receiver_names : (channel : List ℕ) (d : ReceiverData) (i : Image) → 0 < length channel → AreNamedSides i → AreNamedSides (with_receiver channel d i)
receiver_names channel d i n h = record { senders = h.senders; receivers = set_names (λ (r : ReceiverSide). r.channel) (record { channel = channel; hardened = d }) i.receivers n h.receivers }

added_names : (a : Add) (i : Image) → AreNamedSides i → AreNamedSides (added a i)
added_names a i h = record { senders = off_names a.message.ident i.senders h.senders; receivers = h.receivers }

all_added_names : (adds : List Add) (i : Image) → AreNamedSides i → AreNamedSides (added_all adds i)
all_added_names [] i h = h
all_added_names (a ∷ as_) i h = all_added_names as_ (added a i) (added_names a i h)

removed_names : (r : Remove) (i : Image) → AreNamedSides i → AreNamedSides (removed r i)
removed_names r i h = record { senders = h.senders; receivers = h.receivers }

all_removed_names : (removes : List Remove) (i : Image) → AreNamedSides i → AreNamedSides (removed_all removes i)
all_removed_names [] i h = h
all_removed_names (r ∷ rs) i h = all_removed_names rs (removed r i) (removed_names r i h)

settled_names : (commit : Bool) (channel : List ℕ) (i : Image) → AreNamedSides i → AreNamedSides (settled_rows commit channel i)
settled_names true channel i h = record { senders = h.senders; receivers = h.receivers }
settled_names false channel i h = record { senders = h.senders; receivers = h.receivers }

done_names : (r : LogRecord) (i : Image) → HasChannel r → AreNamedSides i → AreNamedSides (doing r i)
done_names (records.Objects change) i n h = record { senders = h.senders; receivers = h.receivers }
done_names (records.Started manager name incarnation) i n h = record { senders = h.senders; receivers = h.receivers }
done_names (records.Unit adds removes) i n h = all_added_names adds (removed_all removes i) (all_removed_names removes i h)
done_names (records.Session channel partner session) i n h = sender_names channel (record (sender_at channel i) { partner = partner; session = session }) i n h
done_names (records.Prepared channel unit last queue idents) i n h =
    sender_names channel (data_prepared (record { unit = unit; queue = queue; idents = idents; last = last }) (sender_at channel i))
    (on_shelves (on_all (held_rows (Among queue idents) (holders.Batch channel))) i) n (record { senders = h.senders; receivers = h.receivers })
done_names (records.Resolved channel unit commit operator) i n h = sender_names channel (data_settled (Some (settle_by commit)) (sender_at channel i)) (settled_rows commit channel i) n (settled_names commit channel i h)
done_names (records.Bound channel partner session last) i n h = receiver_names channel (record (receiver_at channel i) { partner = partner; session = session; closed = false; last = last }) i n h
done_names (records.Closed channel session) i n h = receiver_names channel (record (receiver_at channel i) { closed = (receiver_at channel i).closed || session == (receiver_at channel i).session }) i n h
done_names (records.Received channel unit last adds) i n h = receiver_names channel (record (receiver_at channel (added_all adds i)) { unit = unit; last = last }) (added_all adds i) n (all_added_names adds i h)
done_names (records.SeqSet channel ends.Sender last) i n h = sender_names channel (record (sender_at channel i) { last = last; force = true }) i n h
done_names (records.SeqSet channel ends.Receiver last) i n h = receiver_names channel (record (receiver_at channel i) { last = last }) i n h
done_names (records.Moved from ident to message) i n h = added_names (record { queue = to; message = message }) (removed (record { queue = from; ident = ident }) i) (removed_names (record { queue = from; ident = ident }) i h)

-- ---- the record that a body is

abbrev or_record : LogRecord → Option LogRecord → LogRecord
or_record d None = d
or_record d (Some r) = r

same_names : (x r : LogRecord) → Some x ≡ Some r → HasChannel x → HasChannel r
same_names x r e h = subst HasChannel (ap (or_record r) e) h

changing_names : (o : Option ObjectChange) (r : LogRecord) → changing o ≡ Some r → HasChannel r
changing_names None r e = absurd cc
changing_names (Some change) r e = same_names (records.Objects change) r e tt

other_names : (r : LogRecord) → IsRecord r → HasChannel r
other_names (records.Objects change) h = tt
other_names (records.Started manager name incarnation) h = tt
other_names (records.Unit adds removes) h = tt
other_names (records.Session channel partner session) h = h.0.some
other_names (records.Prepared channel unit last queue idents) h = h.0.some
other_names (records.Resolved channel unit commit operator) h = h.0.some
other_names (records.Bound channel partner session last) h = h.0.some
other_names (records.Closed channel session) h = h.0.some
other_names (records.Received channel unit last adds) h = h.0.some
other_names (records.SeqSet channel end last) h = h.0.some
other_names (records.Moved from ident to message) h = tt

written_names : (w : WrittenRecord) (r : LogRecord) → IsWritten w → meaning w ≡ Some r → HasChannel r
written_names (written.Objects operation text) r h e = changing_names _ r e
written_names (written.Other x) r h e = same_names x r e (other_names x h.1)

read_names : (body : List ℕ) (read : Result (WrittenRecord × List ℕ) Miss) (r : LogRecord) → IsBytes body → record_at body ≡ read → meaning_of read ≡ Some r → HasChannel r
read_names body (Ok (w, [])) r fits is e = written_names w r (record_got body w [] fits is).0 e
read_names body (Ok (w, byte ∷ bytes)) r fits is e = absurd cc
read_names body (Err miss) r fits is e = absurd cc

body_names : (body : List ℕ) (r : LogRecord) → IsBytes body → record_of body ≡ Some r → HasChannel r
unfolding record_of
body_names body r fits e = read_names body (record_at body) r fits refl e

-- ---- the image of a log

abbrev or_image : Image → Result Image ℕ → Image
or_image d (Ok i) = i
or_image d (Err place) = d

one_names : (g : Given) (start : Start) (place : ℕ) (body : List ℕ) (go : Image → Result Image ℕ) (o : Option LogRecord) (i j : Image) → ((k : Image) → go k ≡ Ok j → AreNamedSides k → AreNamedSides j)
    → IsBytes body → record_of body ≡ o → or_place place go (behind g start i o) ≡ Ok j → AreNamedSides i → AreNamedSides j
one_names g start place body go None i j rest fits is e h = absurd cc
one_names g start place body go (Some r) i j rest fits is e h = bool_case (applies g start r i) (λ b. or_place place go (if b then Some (doing r i) else None) ≡ Ok j → AreNamedSides j)
    (λ z f. rest (doing r i) f (done_names r i (body_names body r fits is) h)) (λ z f. absurd cc) e

from_names : (g : Given) (start : Start) (place : ℕ) (bodies : List (List ℕ)) (i j : Image) → image_from g start place bodies i ≡ Ok j → AllByRecursion IsBytes bodies → AreNamedSides i → AreNamedSides j
from_names g start place [] i j e fits h = subst AreNamedSides (ap (or_image i) e) h
from_names g start place (body ∷ bodies) i j e fits h =
    one_names g start place body (image_from g start (place + length (frame body)) bodies) (record_of body) i j
    (λ k f t. from_names g start (place + length (frame body)) bodies k j f fits.1 t) fits.0 refl e h

pub image_names : (g : Given) (start : Start) (bodies : List (List ℕ)) (i : Image) → image g start bodies ≡ Ok i → AllByRecursion IsBytes bodies → AreNamedSides i
image_names g start bodies i e fits = bool_case (begins bodies) (λ b. (if b then image_from g start 0 bodies empty_image else Err 0) ≡ Ok i → AreNamedSides i)
    (λ z f. from_names g start 0 bodies empty_image i f fits (record { senders = tt; receivers = tt })) (λ z f. absurd cc) e

-- ---- what can be closed or settled

sender_named : (channel : List ℕ) (sides : List SenderSide) (d : SenderData) → HaveNames (λ (s : SenderSide). s.channel) sides → sender_in channel sides ≡ Some d → 0 < length channel
sender_named channel [] d h e = absurd cc
sender_named channel (s ∷ ss) d h e = bool_case (bytes_eq channel s.channel) (λ b. bytes_eq channel s.channel ≡ b → (if b then Some s.hardened else sender_in channel ss) ≡ Some d → 0 < length channel)
    (λ z w f. subst (λ (n : List ℕ). 0 < length n) (sym (name_is channel s.channel w)) h.0) (λ z w f. sender_named channel ss d h.1 f) refl e

receiver_named : (channel : List ℕ) (sides : List ReceiverSide) (d : ReceiverData) → HaveNames (λ (r : ReceiverSide). r.channel) sides → receiver_in channel sides ≡ Some d → 0 < length channel
receiver_named channel [] d h e = absurd cc
receiver_named channel (r ∷ rs) d h e = bool_case (bytes_eq channel r.channel) (λ b. bytes_eq channel r.channel ≡ b → (if b then Some r.hardened else receiver_in channel rs) ≡ Some d → 0 < length channel)
    (λ z w f. subst (λ (n : List ℕ). 0 < length n) (sym (name_is channel r.channel w)) h.0) (λ z w f. receiver_named channel rs d h.1 f) refl e

doubt_named : (channel : List ℕ) (sides : List SenderSide) (o : Option SenderData) (unit : Luw) → HaveNames (λ (s : SenderSide). s.channel) sides → sender_in channel sides ≡ o → option_map unit_of (in_doubt_of o) ≡ Some unit → 0 < length channel
doubt_named channel sides None unit h e f = absurd cc
doubt_named channel sides (Some d) unit h e f = sender_named channel sides d h e

session_named : (channel : List ℕ) (sides : List ReceiverSide) (o : Option ReceiverData) (session : ℕ) → HaveNames (λ (r : ReceiverSide). r.channel) sides → receiver_in channel sides ≡ o → 0 < session → session ≡ (receiver_or o).session → 0 < length channel
session_named channel sides None session h e low f = absurd (omega (arith, low, f))
session_named channel sides (Some d) session h e low f = receiver_named channel sides d h e

pub ending_named : (channel : List ℕ) (note : Note) (p : Plain) → AreNamedSides (lasting p) → CanHarden channel note p → IsEnding note → 0 < length channel
ending_named channel (notes.Resolved unit commit operator) p h can ending = doubt_named channel p.channels.senders (sender_data channel p) unit h.senders refl can.0
ending_named channel (notes.Closed session) p h can ending = session_named channel p.channels.receivers (receiver_data channel p) session h.receivers refl can.0 can.1
ending_named channel (notes.Session partner session) p h can ending = absurd ending
ending_named channel (notes.Bound partner session last) p h can ending = absurd ending
ending_named channel (notes.SeqSet end last) p h can ending = absurd ending
