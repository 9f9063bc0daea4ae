use Rattle.std.proofs.Common.{◌≡◌, ◌≤◌, length, drop}
use Rattle.std.specs.Prelude.{find}
use Rattle.mq_queue.specs.Queues.{is_fitting}
use Rattle.mq_queue.proofs.places.row_from.Given as goal

abbrev pub invariant-loop-at : goal.invariant-loop-at
invariant-loop-at l = record {
  passed : find (is_fitting l.want) (drop l.start l.rows.items) ≡ find (is_fitting l.want) (drop l.at l.rows.items);
  within : l.at ≤ length l.rows.items;
}
