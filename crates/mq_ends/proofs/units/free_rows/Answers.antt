use Rattle.mq_ends.proofs.LoopLaws.{next_freed}
use Rattle.mq_ends.proofs.units.free_rows.Goals as goal

pub loop-item-preserved : goal.loop-item-preserved
loop-item-preserved g c = next_freed _ _ _ _ _ _ c.loop-item-test.true c.item-item.is c.free_row.ensures c.loop-item.invariant
