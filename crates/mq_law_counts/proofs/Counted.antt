-- Counters of queues, queue by queue, where no two have one name.
use Rattle.std.proofs.Common.{ℕ, ◌≡◌, ◌+◌, ◌≤◌, [], ◌∷◌, subst, ap, ◌∙◌}
use Rattle.std.specs.Prelude.{if◌then◌else◌}
use Rattle.std.specs.List.{AllByRecursion}
use Rattle.mq_calls.specs.State.{Plain, Queue}
use Rattle.mq_calls.specs.Reads.{puts_to}
use Rattle.mq_calls.specs.Counts.{IsCounted}
use Rattle.mq_law_image.specs.from_law_manager.Facts.{AreNamed}
use Rattle.mq_law_image.proofs.from_law_log.Bridge.{all_of}
pub use Rattle.mq_law_image.proofs.Counting.{entry_found}
use Rattle.mq_law_counts.specs.Counts.{AreWithin}

pub counted : (most : ℕ) (p : Plain) → AreNamed p.queues → AreWithin most p → AllByRecursion (IsCounted most p) p.queues
counted most p named b = all_of (IsCounted most p) p.queues (λ q m. record {
  arrivals = subst (λ (x : Queue). x.arrivals + puts_to q.name p.connections ≤ most) (entry_found p.queues named q m) (b.arrivals q.name);
  due = subst (λ (x : Queue). x.due + puts_to q.name p.connections ≤ most) (entry_found p.queues named q m) (b.due q.name);
})
