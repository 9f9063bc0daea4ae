use Rattle.std.proofs.Common.{◌≡◌, ◌+◌, ◌≤◌, length}
use Rattle.mq_spec_manager.specs.Words.{persistent_rows}
use Rattle.mq_core.specs.from_place.States.{rows_after}
use Rattle.mq_scan.proofs.ScanLaws.{scan_after}
use Rattle.mq_get.proofs.survey.survey_from.Given as goal

abbrev pub invariant-loop-seen : goal.invariant-loop-seen
invariant-loop-seen g l = record {
  found : (scan_after l.want l.moment l.after l.local.queue.rows).found ≡ (scan_after l.want l.moment l.fn.start l.local.queue.rows).found;
  count : l.lasting + length (persistent_rows (scan_after l.want l.moment l.after l.local.queue.rows).expired) ≡ length (persistent_rows (scan_after l.want l.moment l.fn.start l.local.queue.rows).expired);
  left : length (rows_after l.after l.local.queue.rows) + l.seen ≤ length l.local.queue.rows;
  small : l.lasting ≤ l.seen;
}
