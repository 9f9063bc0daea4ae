use Rattle.std.proofs.Common.{◌≡◌, length}
use Rattle.mq_shared.specs.Taking.{RowsWait}
use Rattle.mq_shared.proofs.courses.room_for_scripts.Given as goal

abbrev pub invariant-loop : goal.invariant-loop
invariant-loop l = record {
  all : length l.rows ≡ l.counter;
  each : RowsWait l.scripts l.rows;
}
