-- A queue as its users see it.
use Rattle.std.specs.Prelude.{ℕ, Bool, List}
use Rattle.mq_queue.specs.declared.row.Row.{Row}

-- whether lanes go by priority, the rows in order, how many were inserted, and room for how many more is made
pub record Standing : Type 0 where
  pub by_priority : Bool
  pub rows : List Row
  pub arrivals : ℕ
  pub room : ℕ
