-- The incarnations that a log tells are below 2^60 at a first start, below 2^61 at a later one.
use Rattle.std.proofs.Common.{◌≡◌, ℕ, ◌+◌, ◌<◌, ◌^◌, Bool, true, false, List, [], ◌∷◌, length, refl, ap, arith, subst, ◌∙◌}
use Rattle.std.specs.Prelude.{Option, Some, None, Result, Ok, Err, if◌then◌else◌, max, ◌&&◌}
use Rattle.std.specs.List.{list_all}
use Rattle.std.proofs.lemmas.Bool.Decides.{nat_tests}
use Rattle.mq_calls.specs.declared.records.Add.{Add}
use Rattle.mq_calls.specs.declared.records.Remove.{Remove}
use Rattle.mq_calls.specs.declared.records.LogRecord.{LogRecord}
use Rattle.mq_calls.specs.declared.records.LogRecord.TheVariants as records
use Rattle.mq_sync.specs.declared.data.End.TheVariants as ends
use Rattle.mq_log.specs.Bodies.{frame}
use Rattle.mq_calls.specs.State.{Given}
use Rattle.mq_calls.specs.declared.image.Image.{Image}
use Rattle.mq_spec_log.specs.Applies.{Start, suits, applies, is_in_bounds, was_given}
use Rattle.mq_spec_log.specs.Applies.Start.{First, Later}
use Rattle.mq_spec_log.specs.Shelves.{added, removed, added_all, removed_all}
use Rattle.mq_spec_log.specs.Records.{doing, settled_rows}
use Rattle.mq_spec_log.specs.Bodies.{record_of, behind, or_place, image_from, begins, image, empty_image}
use Rattle.mq_law_image.proofs.Members.{both}

abbrev bound : Start → ℕ
bound First = 2 ^ 60
bound Later = 2 ^ 61

abbrev IsLow : Start → Image → Type 0
IsLow start i = i.incarnation < bound start

adds_same : (adds : List Add) (i : Image) → (added_all adds i).incarnation ≡ i.incarnation
adds_same [] i = refl
adds_same (a ∷ as_) i = adds_same as_ (added a i)

removes_same : (rs : List Remove) (i : Image) → (removed_all rs i).incarnation ≡ i.incarnation
removes_same [] i = refl
removes_same (r ∷ rs) i = removes_same rs (removed r i)

settled_same : (commit : Bool) (channel : List ℕ) (i : Image) → (settled_rows commit channel i).incarnation ≡ i.incarnation
settled_same true channel i = refl
settled_same false channel i = refl

low_same : (a b most : ℕ) → a ≡ b → b < most → a < most
low_same a b most e lt = omega (arith, e, lt)

less : (a b most : ℕ) → a < most → b < most → max a b < most
less a b most lt k = omega (arith, lt, k)

started_low : (start : Start) (manager : ℕ) (name : List ℕ) (incarnation : ℕ) → is_in_bounds start (records.Started manager name incarnation) ≡ true → incarnation < bound start
started_low First manager name incarnation e = grind (arith, nat_tests)
started_low Later manager name incarnation e = grind (arith, nat_tests)

done_low : (g : Given) (start : Start) (r : LogRecord) (i : Image) → applies g start r i ≡ true → IsLow start i → IsLow start (doing r i)
done_low g start (records.Started manager name incarnation) i e low = less i.incarnation incarnation (bound start) low (started_low start manager name incarnation (both (suits g (records.Started manager name incarnation) i && list_all (was_given g i) []) (is_in_bounds start (records.Started manager name incarnation)) e).1)
done_low g start (records.Objects change) i e low = low
done_low g start (records.Unit adds removes) i e low = low_same _ _ (bound start) (adds_same adds (removed_all removes i) ∙ removes_same removes i) low
done_low g start (records.Session channel partner session) i e low = low
done_low g start (records.Prepared channel unit last queue idents) i e low = low
done_low g start (records.Resolved channel unit commit operator) i e low = low_same _ _ (bound start) (settled_same commit channel i) low
done_low g start (records.Bound channel partner session last) i e low = low
done_low g start (records.Closed channel session) i e low = low
done_low g start (records.Received channel unit last adds) i e low = low_same _ _ (bound start) (adds_same adds i) low
done_low g start (records.SeqSet channel ends.Sender last) i e low = low
done_low g start (records.SeqSet channel ends.Receiver last) i e low = low
done_low g start (records.Moved from ident to message) i e low = low

behind_low : (g : Given) (start : Start) (r : Option LogRecord) (i j : Image) → behind g start i r ≡ Some j → IsLow start i → IsLow start j
behind_low g start None i j e low = absurd cc
behind_low g start (Some r) i j e low = by (applies g start r i) refl e
  where
    by : (b : Bool) → applies g start r i ≡ b → (if b then Some (doing r i) else None) ≡ Some j → IsLow start j
    by true a f = subst (IsLow start) (some_is (doing r i) j f) (done_low g start r i a low)
      where
        some_is : (x y : Image) → Some x ≡ Some y → x ≡ y
        some_is x y f = grind (arith, f)
    by false a f = absurd cc

abbrev or_image : Image → Result Image ℕ → Image
or_image d (Ok i) = i
or_image d (Err place) = d

from_low : (g : Given) (start : Start) (place : ℕ) (bodies : List (List ℕ)) (i j : Image) → image_from g start place bodies i ≡ Ok j → IsLow start i → IsLow start j
from_low g start place [] i j e low = subst (IsLow start) (ap (or_image i) e) low
from_low g start place (body ∷ bodies) i j e low = by (behind g start i (record_of body)) refl e (λ k f w. from_low g start (place + length (frame body)) bodies k j f w)
  where
    by : (o : Option Image) → behind g start i (record_of body) ≡ o → or_place place (image_from g start (place + length (frame body)) bodies) o ≡ Ok j → ((k : Image) → image_from g start (place + length (frame body)) bodies k ≡ Ok j → IsLow start k → IsLow start j) → IsLow start j
    by None b f rest = absurd cc
    by (Some k) b f rest = rest k f (behind_low g start (record_of body) i k b low)

pub image_under : (g : Given) (start : Start) (bodies : List (List ℕ)) (i : Image) → image g start bodies ≡ Ok i → i.incarnation < bound start
image_under g start bodies i e = by (begins bodies) e
  where
    by : (b : Bool) → (if b then image_from g start 0 bodies empty_image else Err 0) ≡ Ok i → IsLow start i
    by true f = from_low g start 0 bodies empty_image i f (some start)
      where
        some : (s : Start) → 0 < bound s
        some First = omega arith
        some Later = omega arith
    by false f = absurd cc

pub image_low : (g : Given) (start : Start) (bodies : List (List ℕ)) (i : Image) → image g start bodies ≡ Ok i → i.incarnation < 2 ^ 61
image_low g First bodies i e = let lt = image_under g First bodies i e in omega (arith, lt)
image_low g Later bodies i e = image_under g Later bodies i e
