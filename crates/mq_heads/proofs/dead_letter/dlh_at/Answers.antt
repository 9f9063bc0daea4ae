use Rattle.std.proofs.Common.{rules}
use Rattle.mq_message.specs.Layout.{long_of, part}
use Rattle.mq_message.proofs.LayoutLaws.{read_long}
use Rattle.mq_heads.specs.Headers.{dlh_in}
use Rattle.mq_heads.proofs.dead_letter.dlh_at.Goals as goal

pub returns : goal.returns
unfolding dlh_in
returns c = λ i. record {
  reason = read_long c.long_at.result (long_of (part 8 4 c.args.bytes.now)) (search rules) c.long_at.ensures i;
  dest_q_name = c.array_at.ensures i;
  dest_q_mgr_name = c.array_at-2.ensures i;
  encoding = read_long c.long_at-2.result (long_of (part 108 4 c.args.bytes.now)) (search rules) c.long_at-2.ensures i;
  coded_char_set_id = read_long c.long_at-3.result (long_of (part 112 4 c.args.bytes.now)) (search rules) c.long_at-3.ensures i;
  format = c.array_at-3.ensures i;
  put_appl_type = read_long c.long_at-4.result (long_of (part 124 4 c.args.bytes.now)) (search rules) c.long_at-4.ensures i;
  put_appl_name = c.array_at-4.ensures i;
  put_date = c.array_at-5.ensures i;
  put_time = c.array_at-6.ensures i;
}
