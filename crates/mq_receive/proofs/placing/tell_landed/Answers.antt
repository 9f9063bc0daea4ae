use Rattle.std.proofs.Common.{arith}
use Rattle.mq_receive.proofs.LoopLaws.{next_told}
use Rattle.mq_receive.proofs.placing.tell_landed.Goals as goal

pub tell_one-requires : goal.tell_one-requires
tell_one-requires c = omega (arith, c.loop-arrival.invariant.room, c.loop-arrival-test.true, c.requires)

pub loop-arrival-preserved : goal.loop-arrival-preserved
loop-arrival-preserved c = record {
  dids = next_told _ _ _ _ _ _ c.loop-arrival-test.true c.arrival-item.is c.tell_one.ensures.dids c.loop-arrival.invariant.dids;
  room = omega (arith, c.tell_one.ensures.room, c.loop-arrival.invariant.room);
}
