use Rattle.std.proofs.Common.{◌≡◌, ◌+◌, ◌≤◌, ◌++◌, length, map, filter}
use Rattle.mq_queue.specs.Rows.{is_free}
use Rattle.mq_get.specs.from_scan.Scans.{met_of}
use Rattle.mq_agents.specs.Expiring.{is_past_row}
use Rattle.mq_agents.proofs.ExpireLaws.{past_left, free_left}
use Rattle.mq_agents.proofs.expiring.past_rows.Given as goal

abbrev pub invariant-loop-seen : goal.invariant-loop-seen
invariant-loop-seen g l = record {
  met : l.mets ++ past_left l.moment l.after l.local.queue.rows ≡ map met_of (filter (is_past_row l.moment) (filter is_free l.local.queue.rows));
  left : free_left l.after l.local.queue.rows + l.seen ≤ length l.local.queue.rows;
}
