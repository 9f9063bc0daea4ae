use Rattle.std.proofs.Common.{◌≡◌, ◌+◌, ◌≤◌, length}
use Rattle.std.specs.Prelude.{find}
use Rattle.mq_queue.specs.Rows.{has_ident}
use Rattle.mq_place.specs.States.{rows_after}
use Rattle.mq_place.proofs.local.LocalRows.row.Given as goal

abbrev pub invariant-loop-seen : goal.invariant-loop-seen
invariant-loop-seen g l = record {
  same : find (has_ident l.ident) (rows_after l.after l.self.queue.rows) ≡ find (has_ident l.ident) l.self.queue.rows;
  left : length (rows_after l.after l.self.queue.rows) + l.seen ≤ length l.self.queue.rows;
}
