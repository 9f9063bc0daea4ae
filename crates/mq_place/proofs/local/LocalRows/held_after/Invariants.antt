use Rattle.std.proofs.Common.{◌≡◌, ◌+◌, ◌≤◌, length}
use Rattle.std.specs.Prelude.{find}
use Rattle.mq_place.specs.States.{holds, rows_after}
use Rattle.mq_place.proofs.local.LocalRows.held_after.Given as goal

abbrev pub invariant-loop-seen : goal.invariant-loop-seen
invariant-loop-seen g l = record {
  same : find (holds l.by) (rows_after l.after l.self.queue.rows) ≡ find (holds l.by) (rows_after l.fn.start l.self.queue.rows);
  left : length (rows_after l.after l.self.queue.rows) + l.seen ≤ length l.self.queue.rows;
}
