use Rattle.std.proofs.Common.{◌≡◌, ◌+◌, ◌≤◌, length}
use Rattle.std.specs.Prelude.{find}
use Rattle.mq_place.specs.States.{rows_after}
use Rattle.mq_queue.specs.declared.row.Row.{Row}
use Rattle.mq_calls.specs.Reads.{is_by_other}
use Rattle.mq_agents.proofs.walking.row_by_other.Given as goal

abbrev pub invariant-loop-seen : goal.invariant-loop-seen
invariant-loop-seen g l = record {
  same : find (λ (row : Row). is_by_other l.channel row.by) (rows_after l.after l.local.queue.rows) ≡ find (λ (row : Row). is_by_other l.channel row.by) l.local.queue.rows;
  left : length (rows_after l.after l.local.queue.rows) + l.seen ≤ length l.local.queue.rows;
}
