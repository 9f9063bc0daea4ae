use Rattle.std.proofs.Common.{arith}
use Rattle.mq_log.proofs.Scanned.{one_more}
use Rattle.mq_log.proofs.scan.scan.Goals as goal

pub loop-at-preserved : goal.loop-at-preserved
loop-at-preserved c = record {
  inside = omega arith;
  front = one_more c.loop-at.at c.body_length-body.result c.args.bytes.now c.loop-at.invariant.inside c.loop-at.invariant.front c.loop-at-test.true c.body_length-body.ensures.same c.body_length-body.ensures.small (omega arith);
}
