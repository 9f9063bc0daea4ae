use Rattle.std.proofs.Common.{◌≡◌, drop}
use Rattle.mq_ends.specs.Ends.{backed_each}
use Rattle.mq_ends.proofs.units.free_rows.Given as goal

abbrev pub invariant-loop-item : goal.invariant-loop-item
invariant-loop-item g l = backed_each (drop l.item-index l.items) l.parts ≡ backed_each l.items l.fn.parts
