-- The order that messages of one channel keep, on the ledger's queues.
use Rattle.std.specs.Prelude.{ℕ, ◌≡◌, Bool, true, List, if◌then◌else◌}
use Rattle.mq_message.specs.declared.message.Ident.{Ident}
use Rattle.mq_queue.specs.declared.row.Row.{Row}
use Rattle.mq_sync.specs.declared.unit.Unit.{Unit as Luw}
use Rattle.mq_spec_network.specs.Story.{Mem}
use Rattle.mq_spec_network.specs.Order.{Before}
use Rattle.mq_law_rows.specs.Kinds.{unit_at}

-- A batch is taken from the front of its queue: what stands before one of its rows, with its priority, is of it too.
pub record IsFront (ids : List Ident) (rows : List Row) : Type 0 where
  pub front : (x y : Row) → Before x y rows → Mem y.message.ident ids → x.place.lane ≡ y.place.lane → Mem x.message.ident ids × Before x.message.ident y.message.ident ids

-- A batch is taken: its unit is young from then on.
abbrev pub with_young : (ℕ → List ℕ → Luw → Bool) → ℕ → List ℕ → Luw → ℕ → List ℕ → Luw → Bool
with_young young m c u a d v = if unit_at m c u a d v then true else young a d v
