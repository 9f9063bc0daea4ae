use Rattle.mq_receive.proofs.LoopLaws.{next_unexpected}
use Rattle.mq_receive.proofs.placing.unexpect_all.Goals as goal

pub loop-arrival-preserved : goal.loop-arrival-preserved
loop-arrival-preserved c = next_unexpected _ _ _ _ _ _ c.loop-arrival-test.true c.arrival-item.is c.unexpect.ensures c.loop-arrival.invariant
