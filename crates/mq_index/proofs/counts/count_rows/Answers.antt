use Rattle.std.proofs.Common.{arith, ◌+◌}
use Rattle.mq_index.proofs.OrderLaws.{sum_fits, sum_next}
use Rattle.mq_index.proofs.counts.count_rows.Goals as goal

pub overflow_add-sum : goal.overflow_add-sum
overflow_add-sum c =
    let next = sum_next c.args.least c.args.slots.now c.loop-at.at c.index-slots-at.result (omega (arith, c.loop-at-test.true)) c.index-slots-at.is in
    let few = sum_fits c.args.least c.args.slots.now (c.loop-at.at + 1) in
    omega (arith, next, few, c.loop-at.invariant, c.slot_weight-sum.ensures)

pub loop-at-preserved : goal.loop-at-preserved
loop-at-preserved c =
    let next = sum_next c.args.least c.args.slots.now c.loop-at.at c.index-slots-at.result (omega (arith, c.loop-at-test.true)) c.index-slots-at.is in
    omega (arith, next, c.loop-at.invariant, c.slot_weight-sum.ensures)
