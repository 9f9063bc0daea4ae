use Rattle.std.proofs.Common.{◌≡◌, ◌++◌, length}
use Rattle.mq_shelves.specs.Racks.{rows_of}
use Rattle.mq_shelves.proofs.rack.Rack.into_rows.Given as goal

abbrev pub invariant-loop-row : goal.invariant-loop-row
invariant-loop-row l = l.rows ++ rows_of l.left.entries ≡ rows_of l.fn.self

abbrev pub decreases-loop-row : goal.decreases-loop-row
decreases-loop-row l = length l.left.entries
