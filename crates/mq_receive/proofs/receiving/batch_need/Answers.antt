use Rattle.std.proofs.Common.{rules}
use Rattle.mq_receive.proofs.NeedLaws.{can_at, need_next, need_past}
use Rattle.mq_receive.proofs.receiving.batch_need.Goals as goal

pub add_need-requires : goal.add_need-requires
add_need-requires c = (can_at _ _ _ c.loop-arrival-test.true c.arrival-item.is c.loop-arrival.invariant.can).0

pub returns-in_default : goal.returns-in_default
returns-in_default c = need_past _ _ _ _ _ c.loop-arrival-test.true c.arrival-item.is c.add_need.ensures c.loop-arrival.invariant.sum (search rules)

pub loop-arrival-preserved : goal.loop-arrival-preserved
loop-arrival-preserved c = record {
  sum = need_next _ _ _ _ _ _ c.loop-arrival-test.true c.arrival-item.is c.add_need.ensures c.loop-arrival.invariant.sum (search rules);
  can = (can_at _ _ _ c.loop-arrival-test.true c.arrival-item.is c.loop-arrival.invariant.can).1;
}
