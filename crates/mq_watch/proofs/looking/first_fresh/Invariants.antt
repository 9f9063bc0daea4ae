use Rattle.std.proofs.Common.{◌≡◌, ◌+◌, ◌≤◌, length}
use Rattle.std.specs.Prelude.{find}
use Rattle.mq_place.specs.States.{rows_after}
use Rattle.mq_watch.specs.Looks.{is_fresh}
use Rattle.mq_watch.proofs.looking.first_fresh.Given as goal

abbrev pub invariant-loop-seen : goal.invariant-loop-seen
invariant-loop-seen g l = record {
  same : find (is_fresh l.moment) (rows_after l.after l.local.queue.rows) ≡ find (is_fresh l.moment) l.local.queue.rows;
  left : length (rows_after l.after l.local.queue.rows) + l.seen ≤ length l.local.queue.rows;
}
