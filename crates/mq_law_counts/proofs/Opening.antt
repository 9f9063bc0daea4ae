-- The counters of a manager at its first start.
use Rattle.std.proofs.Common.{ℕ, ◌≡◌, ◌+◌, ◌≤◌, List, [], ◌∷◌, length, refl, arith, map}
use Rattle.std.specs.Prelude.{if◌then◌else◌}
use Rattle.std.specs.Str.{bytes_eq}
use Rattle.mq_calls.specs.State.{Given}
use Rattle.mq_calls.specs.Reads.{queue_in}
use Rattle.mq_calls.specs.Images.{queue_on}
use Rattle.mq_calls.specs.declared.image.Image.{Image}
use Rattle.mq_calls.specs.declared.image.Shelf.{Shelf}
use Rattle.mq_spec_manager.specs.Stops.{first_start}
use Rattle.mq_law_image.specs.from_law_manager.Facts.{Mem}
use Rattle.mq_law_image.proofs.from_law_manager.Lists.{bool_case}
use Rattle.mq_law_image.proofs.Counting.{first_arrivals as opened_arrivals}
use Rattle.mq_law_counts.specs.Counts.{AreWithin}

none_left : (most : ℕ) → 0 ≤ most
none_left most = omega arith

opened_due : (name : List ℕ) (ss : List Shelf) → (queue_in name (map queue_on ss)).due ≡ 0
opened_due name [] = refl
opened_due name (s ∷ ss) = bool_case (bytes_eq name s.name) (λ b. (if b then queue_on s else queue_in name (map queue_on ss)).due ≡ 0) (λ e. refl) (λ e. opened_due name ss)

pub opened_within : (most : ℕ) (given : Given) (image : Image) (long moment : ℕ) → image.incarnation + 1 ≤ most → ((s : Shelf) → Mem s image.shelves → length s.rows ≤ most) → AreWithin most (first_start given image long moment)
opened_within most given image long moment incarnation rows = record {
  incarnation = on image.incarnation incarnation;
  idents = none_left most;
  connections = none_left most;
  handles = tt;
  arrivals = λ name. opened_arrivals most name image.shelves rows;
  due = λ name. zero_is (queue_in name (map queue_on image.shelves)).due (opened_due name image.shelves);
}
  where
    on : (a : ℕ) → a + 1 ≤ most → a + 0 + 1 + 0 ≤ most
    on a le = omega (arith, le)

    zero_is : (a : ℕ) → a ≡ 0 → a + 0 ≤ most
    zero_is a e = omega (arith, e)
