use Rattle.std.proofs.Common.{◌≡◌, ◌+◌, ◌≤◌, ◌++◌, length}
use Rattle.mq_place.specs.States.{held_on}
use Rattle.mq_place.specs.Held.{held_left}
use Rattle.mq_place.specs.Rooms.{RoomStays}
use Rattle.mq_place.proofs.HeldLaws.{count_left}
use Rattle.mq_place.proofs.local.LocalRows.held_rows.Given as goal

abbrev pub invariant-loop-seen : goal.invariant-loop-seen
invariant-loop-seen g l = record {
  told : l.rows.rows ++ held_left l.by l.after l.self.queue ≡ l.fn.rows.rows ++ held_on l.by l.self.queue;
  left : count_left l.by l.after l.self.queue.rows + l.seen ≤ length l.self.queue.rows;
  room : RoomStays l.fn.rows l.rows;
}
