use Rattle.std.proofs.Common.{◌≡◌, ◌++◌}
use Rattle.std.specs.Prelude.{reverse, length}
use Rattle.mq_rebuild.proofs.sides.receivers_of.Given as goal

abbrev pub invariant-loop-side : goal.invariant-loop-side
invariant-loop-side l = l.kept ++ reverse l.left.items ≡ l.fn.sides

abbrev pub decreases-loop-side : goal.decreases-loop-side
decreases-loop-side l = length l.left.items
