use Rattle.std.proofs.Common.{◌≡◌, ◌++◌}
use Rattle.mq_place.specs.States.{held_rows}
use Rattle.mq_place.specs.Slots.{present}
use Rattle.mq_place.specs.Held.{held_from}
use Rattle.mq_place.specs.Rooms.{RoomStays}
use Rattle.mq_place.proofs.held.held_rows.Given as goal

abbrev pub invariant-loop-at : goal.invariant-loop-at
invariant-loop-at g l = record {
  told : l.rows.rows ++ held_from l.by l.at l.slots.items ≡ l.fn.rows.rows ++ held_rows l.by (present l.slots.items);
  room : RoomStays l.fn.rows l.rows;
}
