use Rattle.mq_receive.proofs.NeedLaws.{can_more}
use Rattle.mq_receive.proofs.receiving.can_all_stand.Goals as goal

pub loop-arrival-preserved : goal.loop-arrival-preserved
loop-arrival-preserved c = can_more _ _ _ c.loop-arrival-test.true c.arrival-item.is (c.can_stand.ensures c.if-not-can_stand.false) c.loop-arrival.invariant
