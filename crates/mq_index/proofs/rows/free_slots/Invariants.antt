use Rattle.std.proofs.Common.{◌≡◌}
use Rattle.mq_index.specs.Slots.{freed_slot}
use Rattle.mq_index.proofs.RowLaws.{map_first}
use Rattle.mq_index.proofs.rows.free_slots.Given as goal

abbrev pub invariant-loop-at : goal.invariant-loop-at
invariant-loop-at l = record {
  so_far : l.store.slots ≡ map_first freed_slot l.at l.fn.store.slots;
  arrivals : l.store.arrivals ≡ l.fn.store.arrivals;
  room : l.store.room ≡ l.fn.store.room;
}
