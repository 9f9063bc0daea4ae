use Rattle.std.proofs.Common.{◌≡◌, ◌+◌, ◌≤◌, ◌++◌, length}
use Rattle.mq_place.specs.States.{rows_after}
use Rattle.mq_standing.proofs.rows.put_rows.Given as goal

abbrev pub invariant-loop-seen : goal.invariant-loop-seen
invariant-loop-seen g l = record {
  same : l.out ++ rows_after l.after l.local.queue.rows ≡ l.fn.out ++ l.local.queue.rows;
  left : length (rows_after l.after l.local.queue.rows) + l.seen ≤ length l.local.queue.rows;
}
