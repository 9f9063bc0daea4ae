use Rattle.std.proofs.Common.{◌≡◌, ◌+◌, ◌≤◌, ◌++◌, length}
use Rattle.std.specs.Prelude.{map}
use Rattle.mq_place.specs.States.{rows_after}
use Rattle.mq_scan.specs.Scans.{met_of}
use Rattle.mq_scan.proofs.ScanLaws.{scan_after}
use Rattle.mq_scan.proofs.scanning.scan_from.Given as goal

abbrev pub invariant-loop-seen : goal.invariant-loop-seen
invariant-loop-seen g l = record {
  found : (scan_after l.want l.moment l.after l.local.queue.rows).found ≡ (scan_after l.want l.moment l.fn.start l.local.queue.rows).found;
  met : l.met ++ map met_of (scan_after l.want l.moment l.after l.local.queue.rows).expired ≡ l.fn.met ++ map met_of (scan_after l.want l.moment l.fn.start l.local.queue.rows).expired;
  left : length (rows_after l.after l.local.queue.rows) + l.seen ≤ length l.local.queue.rows;
}
