use Rattle.std.proofs.Common.{◌≡◌, ◌++◌}
use Rattle.std.specs.Prelude.{reverse, length}
use Rattle.mq_net_rows.proofs.shelves.Shelves.from_shelves.Given as goal

abbrev pub invariant-placing : goal.invariant-placing
invariant-placing l = l.out ++ reverse l.left.items ≡ l.fn.shelves

abbrev pub decreases-placing : goal.decreases-placing
decreases-placing l = length l.left.items
