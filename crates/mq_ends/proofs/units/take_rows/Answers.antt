use Rattle.mq_ends.proofs.LoopLaws.{next_taken}
use Rattle.mq_ends.proofs.units.take_rows.Goals as goal

pub loop-item-preserved : goal.loop-item-preserved
loop-item-preserved g c = next_taken _ _ _ _ _ _ c.loop-item-test.true c.item-item.is c.take_row.ensures c.loop-item.invariant
