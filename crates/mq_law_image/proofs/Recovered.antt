-- The image of a log's bodies is one.
use Rattle.std.proofs.Common.{ℕ, ◌≡◌, ◌≢◌, ◌+◌, ◌≤◌, true, false, List, [], ◌∷◌, length, refl, ap, sym, subst, ◌∙◌, inl, inr}
use Rattle.std.specs.Prelude.{Option, Some, None, if◌then◌else◌, Result, Ok, Err, All}
use Rattle.std.specs.List.{list_any, AllByRecursion}
use Rattle.std.specs.Str.{bytes_eq}
use Rattle.mq_message.specs.declared.message.Ident.{Ident}
use Rattle.mq_message.specs.declared.place.Holder.{Holder}
use Rattle.mq_message.specs.declared.place.Holder.TheVariants as holders
use Rattle.mq_queue.specs.declared.row.Row.{Row}
use Rattle.mq_queue.specs.Rows.{same_ident, is_int}
use Rattle.mq_objects.specs.declared.object.Object.{Object}
use Rattle.mq_objects.specs.declared.change.ObjectChange.{ObjectChange}
use Rattle.mq_objects.specs.Names.{is_object, space_of, name_of}
use Rattle.mq_calls.specs.declared.records.Add.{Add}
use Rattle.mq_calls.specs.declared.records.LogRecord.{LogRecord}
use Rattle.mq_calls.specs.declared.records.LogRecord.TheVariants as records
use Rattle.mq_frame.specs.declared.fault.Miss.{Miss}
use Rattle.mq_frame.specs.Reading.{IsBytes}
use Rattle.mq_law_log.specs.from_record.{WrittenRecord}
use Rattle.mq_law_log.specs.from_record.WrittenRecordVariants as written
use Rattle.mq_law_log.specs.from_record.Reading.{record_at}
use Rattle.mq_law_log.specs.from_record.Records.{IsAdd, IsRecord, IsWritten}
use Rattle.mq_law_log.proofs.from_record.KindLaws.{record_got}
use Rattle.mq_log.specs.Bodies.{frame}
use Rattle.mq_calls.specs.State.{Given}
use Rattle.mq_calls.specs.declared.state.SenderSide.{SenderSide}
use Rattle.mq_calls.specs.declared.state.ReceiverSide.{ReceiverSide}
use Rattle.mq_calls.specs.Reads.{is_persistent, sender_in, in_doubt_of}
use Rattle.mq_calls.specs.Changes.{comes_before}
use Rattle.mq_calls.specs.declared.image.Image.{Image}
use Rattle.mq_calls.specs.declared.image.Shelf.{Shelf}
use Rattle.mq_calls.specs.Recovery.{IsImage, IsShelf, IsLasting, IsHeldWell, IsOfDoubt, AreApart, IsSenderSide, IsReceiverSide, IsKnown, IsDoubtKnown, AreKnown, listed}
use Rattle.mq_law_log.specs.from_spec_log.Applies.{Start, applies}
use Rattle.mq_law_log.specs.from_spec_log.Bodies.{changing, meaning, meaning_of, record_of, behind, or_place, image_from, begins, image, empty_image}
use Rattle.mq_law_log.specs.from_spec_log.Texts.{change_in}
use Rattle.mq_law_log.specs.from_spec_log.Records.{doing}
use Rattle.mq_law_log.specs.from_law_manager.Facts.{Mem, Chain, ident_of}
use Rattle.mq_law_log.proofs.from_law_manager.Lists.{bool_case, ident_no}
use Rattle.mq_law_log.proofs.from_law_manager.Named.{name_self}
use Rattle.mq_law_log.proofs.from_law_manager.Routes.{side_found}
use Rattle.mq_law_image.specs.SoFar.{sight, IsHeldIn, IsRowOf, IsSoFar, ArePersistent, IsKept}
use Rattle.mq_law_image.proofs.Members.{every, all_pairs, chain_implied}
use Rattle.mq_law_image.proofs.Naming.{shelves_named}
use Rattle.mq_law_image.proofs.Records.{record_so_far}

-- A record that is read places persistent messages

adds_kept : (adds : List Add) → AllByRecursion IsAdd adds → ArePersistent adds
adds_kept [] h a m = absurd m
adds_kept (x ∷ xs) h a (inl e) = ap (λ (y : Add). is_persistent y.message) e ∙ ap (is_int 1) h.0.message.persistent
adds_kept (x ∷ xs) h a (inr m) = adds_kept xs h.1 a m

kept_is : (r : LogRecord) → IsRecord r → IsKept r
kept_is (records.Started manager name incarnation) h = tt
kept_is (records.Objects change) h = tt
kept_is (records.Unit adds removes) h = adds_kept adds h.0.each
kept_is (records.Session channel partner session) h = tt
kept_is (records.Prepared channel unit last queue idents) h = tt
kept_is (records.Resolved channel unit commit operator) h = tt
kept_is (records.Bound channel partner session last) h = tt
kept_is (records.Closed channel session) h = tt
kept_is (records.Received channel unit last adds) h = adds_kept adds h.3.each
kept_is (records.SeqSet channel end last) h = tt
kept_is (records.Moved from ident to message) h = ap (is_int 1) h.3.persistent

abbrev or_record : LogRecord → Option LogRecord → LogRecord
or_record d None = d
or_record d (Some r) = r

changed_kept : (o : Option ObjectChange) (r : LogRecord) → changing o ≡ Some r → IsKept r
changed_kept None r e = absurd cc
changed_kept (Some change) r e = subst IsKept (ap (or_record r) e) tt

means_kept : (w : WrittenRecord) (r : LogRecord) → IsWritten w → meaning w ≡ Some r → IsKept r
means_kept (written.Objects operation text) r h e = changed_kept (change_in operation text) r e
means_kept (written.Other x) r h e = subst IsKept (ap (or_record r) e) (kept_is x h.1)

read_kept : (body : List ℕ) (read : Result (WrittenRecord × List ℕ) Miss) (r : LogRecord) → IsBytes body → record_at body ≡ read → meaning_of read ≡ Some r → IsKept r
read_kept body (Ok (w, [])) r fits is e = means_kept w r (record_got body w [] fits is).0 e
read_kept body (Ok (w, byte ∷ bytes)) r fits is e = absurd cc
read_kept body (Err miss) r fits is e = absurd cc

body_kept : (body : List ℕ) (r : LogRecord) → IsBytes body → record_of body ≡ Some r → IsKept r
unfolding record_of
body_kept body r fits e = read_kept body (record_at body) r fits refl e

-- One body after another

abbrev or_image : Image → Result Image ℕ → Image
or_image d (Ok i) = i
or_image d (Err place) = d

one_so_far : (g : Given) (start : Start) (place : ℕ) (body : List ℕ) (bodies : List (List ℕ)) (go : Image → Result Image ℕ) (o : Option LogRecord) (i j : Image)
    → ((k : Image) → go k ≡ Ok j → IsSoFar g.number k → IsSoFar g.number j)
    → IsBytes body → record_of body ≡ o → or_place place go (behind g start i o) ≡ Ok j → IsSoFar g.number i → IsSoFar g.number j
one_so_far g start place body bodies go None i j rest fits is e h = absurd cc
one_so_far g start place body bodies go (Some r) i j rest fits is e h =
    bool_case (applies g start r i) (λ b. applies g start r i ≡ b → or_place place go (if b then Some (doing r i) else None) ≡ Ok j → IsSoFar g.number j)
    (λ z w f. rest (doing r i) f (record_so_far g start r i w (body_kept body r fits is) h))
    (λ z w f. absurd cc) refl e

from_so_far : (g : Given) (start : Start) (place : ℕ) (bodies : List (List ℕ)) (i j : Image) → image_from g start place bodies i ≡ Ok j → AllByRecursion IsBytes bodies → IsSoFar g.number i → IsSoFar g.number j
from_so_far g start place [] i j e fits h = subst (IsSoFar g.number) (ap (or_image i) e) h
from_so_far g start place (body ∷ bodies) i j e fits h =
    one_so_far g start place body bodies (image_from g start (place + length (frame body)) bodies) (record_of body) i j
    (λ k f so_far. from_so_far g start (place + length (frame body)) bodies k j f fits.1 so_far) fits.0 refl e h

empty_so_far : (number : ℕ) → IsSoFar number empty_image
empty_so_far number = record {
  once = tt;
  shelves = refl;
  rows = record { row = λ s h m n. absurd m; alone = λ s t h k m n x y e. absurd m; laned = λ s m. absurd m; once = λ s m. absurd m };
  senders = λ s m. absurd m;
  receivers = λ r m. absurd m;
  senders_sorted = tt;
  receivers_sorted = tt;
}

pub image_so_far : (g : Given) (start : Start) (bodies : List (List ℕ)) (i : Image) → image g start bodies ≡ Ok i → AllByRecursion IsBytes bodies → IsSoFar g.number i
image_so_far g start bodies i e fits = bool_case (begins bodies) (λ b. (if b then image_from g start 0 bodies empty_image else Err 0) ≡ Ok i → IsSoFar g.number i)
    (λ z f. from_so_far g start 0 bodies empty_image i f fits (empty_so_far g.number)) (λ z f. absurd cc) e

-- What holds so far is an image

held_well : (i : Image) (queue : List ℕ) (ident : Ident) (b : Option Holder) → IsHeldIn (λ c. in_doubt_of (sender_in c i.senders)) queue ident b → IsHeldWell i queue ident b
held_well i queue ident None h = tt
held_well i queue ident (Some (holders.Unit n)) h = h
held_well i queue ident (Some (holders.Batch c)) h = h

pub is_image : (number : ℕ) (i : Image) → IsSoFar number i → IsImage i
is_image number i h = record {
  once = all_pairs (λ (a b : Object). is_object (space_of a) (name_of a) b ≡ false) i.definitions.objects h.once;
  shelves = h.shelves;
  named = all_pairs (λ (s t : Shelf). bytes_eq s.name t.name ≡ false) i.shelves named;
  rows = every (IsShelf i) i.shelves (λ s m. record {
    rows = every (IsLasting i s.name) s.rows (λ x n. lasting s x (h.rows.row s x m n));
    sorted = all_pairs (λ (x y : Row). x.place.lane ≤ y.place.lane) s.rows (h.rows.laned s m);
    distinct = all_pairs (λ (x y : Row). same_ident x.message.ident y.message.ident ≡ false) s.rows
        (chain_implied (λ (x y : Row). ident_of x ≢ ident_of y) (λ (x y : Row). same_ident x.message.ident y.message.ident ≡ false) s.rows (λ x y k l ne. ident_no x.message.ident y.message.ident ne) (h.rows.once s m));
  });
  apart = all_pairs AreApart i.shelves (chain_implied (λ (s t : Shelf). bytes_eq s.name t.name ≡ false) AreApart i.shelves apart named);
  senders = every IsSenderSide i.senders (λ s m. (h.senders s m).side);
  receivers = every IsReceiverSide i.receivers h.receivers;
  senders_sorted = all_pairs (λ (s t : SenderSide). comes_before s.channel t.channel ≡ true) i.senders h.senders_sorted;
  receivers_sorted = all_pairs (λ (r t : ReceiverSide). comes_before r.channel t.channel ≡ true) i.receivers h.receivers_sorted;
}
  where
    named : Chain (λ (s t : Shelf). bytes_eq s.name t.name ≡ false) i.shelves
    named = shelves_named i.definitions.objects i.shelves h.once h.shelves

    lasting : (s : Shelf) (x : Row) → IsRowOf (sight number i) s.name x → IsLasting i s.name x
    lasting s x r = record {
      persistent = r.persistent;
      lane = r.lane;
      uncounted = r.uncounted;
      unbacked = r.unbacked;
      routed = r.routed;
      held = held_well i s.name x.message.ident x.by r.held;
      doubted = every (IsOfDoubt x) i.senders (λ t k e. r.doubted t.channel (ap (λ o. list_any (same_ident x.message.ident) (listed (in_doubt_of o))) (side_found i.senders t h.senders_sorted k) ∙ e));
    }

    apart : (s t : Shelf) → Mem s i.shelves → Mem t i.shelves → bytes_eq s.name t.name ≡ false → AreApart s t
    apart s t m n e = every (λ (x : Row). All (λ (y : Row). same_ident x.message.ident y.message.ident ≡ false) t.rows) s.rows
        (λ x k. every (λ (y : Row). same_ident x.message.ident y.message.ident ≡ false) t.rows
        (λ y l. ident_no x.message.ident y.message.ident (λ w. cc (e, ap (bytes_eq s.name) (sym (h.rows.alone s t x y m n k l w)) ∙ name_self s.name))))

pub are_known : (number : ℕ) (i : Image) → IsSoFar number i → AreKnown number i
are_known number i h = record {
  rows = every (λ (s : Shelf). All (λ (row : Row). IsKnown number i.incarnation row.message.ident) s.rows) i.shelves (λ s m. every (λ (row : Row). IsKnown number i.incarnation row.message.ident) s.rows (λ x n. (h.rows.row s x m n).known));
  doubts = every (λ (s : SenderSide). IsDoubtKnown number i.incarnation s.hardened.in_doubt) i.senders (λ s m. (h.senders s m).known);
}

pub recovered : (g : Given) (start : Start) (bodies : List (List ℕ)) (i : Image) → image g start bodies ≡ Ok i → AllByRecursion IsBytes bodies → IsImage i × AreKnown g.number i
recovered g start bodies i e fits = let h = image_so_far g start bodies i e fits in (is_image g.number i h, are_known g.number i h)
