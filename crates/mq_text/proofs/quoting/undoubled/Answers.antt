use Rattle.std.proofs.Common.{arith}
use Rattle.mq_text.proofs.QuoteLaws.{text_goes}
use Rattle.mq_text.proofs.quoting.undoubled.Goals as goal

pub reading-preserved-then-bytes-at-ne39 : goal.reading-preserved-then-bytes-at-ne39
reading-preserved-then-bytes-at-ne39 c = record {
  within = omega arith;
  so_far = rw c.in_ok-push.ensures.ok (text_goes c.reading.text c.args.bytes.now c.reading.at c.reading-test.true c.if-bytes-at-ne39.true c.reading.invariant.so_far);
}
