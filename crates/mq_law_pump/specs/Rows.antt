-- The rows of the transmission queue that a sender has open, as its lane counts them.
use Rattle.std.specs.Prelude.{◌≤◌, ℕ, List}
use Rattle.mq_queue.specs.declared.row.Row.{Row}
use Rattle.mq_calls.specs.State.{Plain}
use Rattle.mq_spec_manager.specs.Agents.{queue_of_sender}
use Rattle.mq_law_idle.specs.Counts.{free_in, held_in}
use Rattle.mq_law_idle.specs.Roads.{Road}
use Rattle.mq_law_node.specs.Rows.{rows_at}

abbrev pub rows_of : List ℕ → Plain → List Row
rows_of channel p = rows_at (queue_of_sender channel p) p

-- no more rows are free, and held, than the lane counts
pub record AreWithin (rows : List Row) (w : Road) : Type 0 where
  pub free : free_in rows ≤ w.free
  pub held : held_in rows ≤ w.held
