use Rattle.std.proofs.Common.{arith}
use Rattle.mq_text.proofs.QuoteLaws.{len_goes, len_goes_two}
use Rattle.mq_text.proofs.quoting.quoted_len.Goals as goal

pub reading-preserved-then-bytes-at-ne39 : goal.reading-preserved-then-bytes-at-ne39
reading-preserved-then-bytes-at-ne39 c = record {
  within = omega arith;
  so_far = len_goes c.args.bytes.now c.reading.at c.reading-test.true c.if-bytes-at-ne39.true c.reading.invariant.so_far;
}

pub reading-preserved : goal.reading-preserved
reading-preserved c = record {
  within = omega arith;
  so_far = len_goes_two c.args.bytes.now c.reading.at c.if-at-bytes.true c.if-bytes-at-ne39.false c.if-bytes-at-eq39.true c.reading.invariant.so_far;
}
