use Rattle.std.proofs.Common.{◌≡◌, drop}
use Rattle.std.specs.Prelude.{find}
use Rattle.mq_queue.specs.Rows.{has_ident}
use Rattle.mq_net_rows.specs.Stored.{rows_of}
use Rattle.mq_net_rows.proofs.lanes.slots_row.Given as goal

abbrev pub invariant-loop-slot : goal.invariant-loop-slot
invariant-loop-slot l = find (has_ident l.ident) (rows_of l.store (drop l.slot-index l.slots)) ≡ find (has_ident l.ident) (rows_of l.store l.fn.slots)
