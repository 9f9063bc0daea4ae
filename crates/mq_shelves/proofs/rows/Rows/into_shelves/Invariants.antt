use Rattle.std.proofs.Common.{◌≡◌, ◌++◌, length}
use Rattle.mq_shelves.specs.Racks.{shelves_of}
use Rattle.mq_shelves.specs.Slots.{slot_entries}
use Rattle.mq_shelves.proofs.rows.Rows.into_shelves.Given as goal

abbrev pub invariant-loop-slot : goal.invariant-loop-slot
invariant-loop-slot l = l.shelves.items ++ shelves_of (slot_entries l.left.entries) ≡ l.fn.self

abbrev pub decreases-loop-slot : goal.decreases-loop-slot
decreases-loop-slot l = length l.left.entries
