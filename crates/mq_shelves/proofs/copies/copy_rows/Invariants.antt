use Rattle.std.proofs.Common.{◌≡◌, ◌++◌}
use Rattle.mq_shelves.specs.Racks.{rows_of}
use Rattle.mq_shelves.proofs.copies.copy_rows.Given as goal

abbrev pub invariant-loop-row : goal.invariant-loop-row
invariant-loop-row l = l.copies ++ rows_of l.row-iterator ≡ rows_of l.fn.rows.entries
