use Rattle.std.proofs.Common.{arith}
use Rattle.mq_queue.proofs.CountLaws.{counts_next, room_next}
use Rattle.mq_queue.proofs.counts.counts_of.Goals as goal

pub count_in-requires : goal.count_in-requires
count_in-requires c =
    room_next c.args.rows.now.items c.loop-at.at c.index.result.now c.loop-at.frees (omega (arith, c.len-at-end.type_inv, c.len-at-end.ensures, c.args.rows.now.ok.0))
    (omega (arith, c.loop-at-test.true, c.len-at-end.ensures, c.args.rows.now.ok.0)) c.index.ensures c.loop-at.invariant

pub loop-at-preserved : goal.loop-at-preserved
loop-at-preserved c =
    counts_next c.args.rows.now.items c.loop-at.at c.index.result.now c.loop-at.frees c.count_in.new.frees
    (omega (arith, c.loop-at-test.true, c.len-at-end.ensures, c.args.rows.now.ok.0)) c.index.ensures c.loop-at.invariant c.count_in.ensures
