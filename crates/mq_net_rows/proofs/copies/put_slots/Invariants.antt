use Rattle.std.proofs.Common.{◌≡◌, ◌++◌, drop}
use Rattle.mq_net_rows.specs.Stored.{rows_of}
use Rattle.mq_net_rows.proofs.copies.put_slots.Given as goal

abbrev pub invariant-slots : goal.invariant-slots
invariant-slots l = l.out ++ rows_of l.store (drop l.slot-index l.slots) ≡ l.fn.out ++ rows_of l.store l.fn.slots
