use Rattle.std.proofs.Common.{◌≡◌}
use Rattle.std.specs.Prelude.{reverse, length}
use Rattle.mq_rebuild.specs.Rebuilt.{rows_added, CanAddAll}
use Rattle.mq_rebuild.proofs.rows.add_rows.Given as goal

abbrev pub invariant-loop-row : goal.invariant-loop-row
invariant-loop-row l = record {
  can : CanAddAll l.name (reverse l.left.items) l.queues.states;
  made : rows_added l.name l.fn.rows l.fn.queues.states ≡ rows_added l.name (reverse l.left.items) l.queues.states;
}

abbrev pub decreases-loop-row : goal.decreases-loop-row
decreases-loop-row l = length l.left.items
