-- Bodies of a log, one after another.
use Rattle.std.proofs.Common.{◌≡◌, ℕ, ◌+◌, Bool, true, false, cond, List, [], ◌∷◌, ◌++◌, length, Option, Some, None, Result, Ok, Err, refl, sym, ap, ◌∙◌}
use Rattle.std.proofs.lemmas.List.{append-nil}
use Rattle.mq_record.specs.from_frame.{Miss}
use Rattle.mq_record.specs.from_calls.{Image, LogRecord}
use Rattle.mq_record.specs.declared.record.WrittenRecord.{WrittenRecord}
use Rattle.mq_record.specs.declared.record.WrittenRecord.TheVariants as written
use Rattle.mq_record.specs.Records.{IsRecord, IsOther, record_bytes}
use Rattle.mq_record.specs.Reading.{record_at}
use Rattle.mq_record.proofs.KindLaws.{record_again}
use Rattle.mq_log.specs.Bodies.{frame}
use Rattle.mq_record.specs.from_calls.State.{Given}
use Rattle.mq_spec_log.specs.Applies.{Start, applies}
use Rattle.mq_spec_log.specs.Records.{doing}
use Rattle.mq_spec_log.specs.Bodies.{meaning_of, record_of, behind, or_place, image_from, begins, empty_image, image}

pub record_back : (r : LogRecord) → IsOther r → IsRecord r → record_of (record_bytes r) ≡ Some r
unfolding record_of
record_back r other is =
    ap meaning_of (ap record_at (sym (append-nil (record_bytes r))) ∙ record_again (written.Other r) [] (other, is))

-- what an image comes to with a record that applies
applied : (g : Given) (start : Start) (r : LogRecord) (i : Image) (body : List ℕ) → record_of body ≡ Some r → applies g start r i ≡ true → behind g start i (record_of body) ≡ Some (doing r i)
applied g start r i body read h = ap (behind g start i) read ∙ ap (λ (b : Bool). cond b (Some (doing r i)) None) h

-- the same behind an image that is there
onward : (place : ℕ) (f g : Image → Result Image ℕ) (o : Option Image) (j k : Image) → ((i : Image) → f i ≡ Ok j → g i ≡ Ok k) → or_place place f o ≡ Ok j → or_place place g o ≡ Ok k
onward place f g None j k h e = absurd cc
onward place f g (Some i) j k h e = h i e

from_more : (g : Given) (start : Start) (place : ℕ) (bodies : List (List ℕ)) (next : List ℕ) (r : LogRecord) (i j : Image) → image_from g start place bodies i ≡ Ok j → record_of next ≡ Some r → applies g start r j ≡ true → image_from g start place (bodies ++ next ∷ []) i ≡ Ok (doing r j)
from_more g start place [] next r i j e read h =
    let same : i ≡ j = cc in
    ap (λ (k : Image). or_place place (image_from g start (place + length (frame next)) []) (behind g start k (record_of next))) same
    ∙ ap (or_place place (image_from g start (place + length (frame next)) [])) (applied g start r j next read h)
from_more g start place (body ∷ bodies) next r i j e read h =
    let after : ℕ = place + length (frame body) in
    onward place (image_from g start after bodies) (image_from g start after (bodies ++ next ∷ [])) (behind g start i (record_of body)) j (doing r j)
    (λ k p. from_more g start after bodies next r k j p read h) e

begun : (b : Bool) (x : Result Image ℕ) (i : Image) → cond b x (Err 0) ≡ Ok i → (b ≡ true) × (x ≡ Ok i)
begun true x i e = (refl, e)
begun false x i e = absurd cc

pub image_more : (g : Given) (start : Start) (body : List ℕ) (bodies : List (List ℕ)) (next : List ℕ) (r : LogRecord) (i : Image) → image g start (body ∷ bodies) ≡ Ok i → record_of next ≡ Some r → applies g start r i ≡ true → image g start (body ∷ bodies ++ next ∷ []) ≡ Ok (doing r i)
image_more g start body bodies next r i e read h =
    let b = begun (begins (body ∷ bodies)) (image_from g start 0 (body ∷ bodies) empty_image) i e in
    ap (λ (v : Bool). cond v (image_from g start 0 (body ∷ bodies ++ next ∷ []) empty_image) (Err 0)) b.0 ∙ from_more g start 0 (body ∷ bodies) next r empty_image i b.1 read h
