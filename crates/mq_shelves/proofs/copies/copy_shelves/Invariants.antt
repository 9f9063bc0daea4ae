use Rattle.std.proofs.Common.{◌≡◌, ◌++◌}
use Rattle.mq_shelves.specs.Racks.{shelves_of}
use Rattle.mq_shelves.specs.Slots.{slot_entries}
use Rattle.mq_shelves.proofs.copies.copy_shelves.Given as goal

abbrev pub invariant-loop-slot : goal.invariant-loop-slot
invariant-loop-slot l = l.shelves ++ shelves_of (slot_entries l.slot-iterator) ≡ shelves_of (slot_entries l.fn.slots.entries)
