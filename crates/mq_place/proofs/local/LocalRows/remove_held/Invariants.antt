use Rattle.std.proofs.Common.{◌≡◌, ◌+◌, ◌≤◌, length}
use Rattle.mq_queue.specs.Rows.{keep}
use Rattle.mq_place.specs.States.{is_other_row, on_rows}
use Rattle.mq_place.proofs.HeldLaws.{count_held}
use Rattle.mq_place.proofs.local.LocalRows.remove_held.Given as goal

abbrev pub invariant-loop-seen : goal.invariant-loop-seen
invariant-loop-seen g l = record {
  same : on_rows (keep (is_other_row l.by)) l.self ≡ on_rows (keep (is_other_row l.by)) l.fn.self;
  left : count_held l.by l.self.queue.rows + l.seen ≤ length l.fn.self.queue.rows;
}
