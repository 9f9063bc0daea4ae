use Rattle.std.proofs.Common.{◌≡◌, drop}
use Rattle.mq_core.specs.Placing.{take_each}
use Rattle.mq_ends.proofs.units.take_rows.Given as goal

abbrev pub invariant-loop-item : goal.invariant-loop-item
invariant-loop-item g l = take_each (drop l.item-index l.items) l.parts ≡ take_each l.items l.fn.parts
