use Rattle.std.proofs.Common.{◌≡◌, ◌-◌, ◌++◌}
use Rattle.std.specs.Prelude.{take}
use Rattle.mq_place.specs.States.{held_on}
use Rattle.mq_place.specs.Held.{held_left}
use Rattle.mq_place.specs.Rooms.{RoomStays}
use Rattle.mq_agents.proofs.walking.first_held.Given as goal

abbrev pub invariant-loop-seen : goal.invariant-loop-seen
invariant-loop-seen g l = record {
  told : l.rows.rows ++ take (l.most - l.seen) (held_left l.by l.after l.local.queue) ≡ l.fn.rows.rows ++ take l.most (held_on l.by l.local.queue);
  room : RoomStays l.fn.rows l.rows;
}
