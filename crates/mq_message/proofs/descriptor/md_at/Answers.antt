use Rattle.std.proofs.Common.{rules}
use Rattle.mq_message.specs.Layout.{long_of, part}
use Rattle.mq_message.proofs.LayoutLaws.{read_long}
use Rattle.mq_message.specs.Descriptor.{md_in}
use Rattle.mq_message.proofs.descriptor.md_at.Goals as goal

pub returns : goal.returns
unfolding md_in
returns c = λ i. record {
  report = read_long c.long_at.result (long_of (part 8 4 c.args.bytes.now)) (search rules) c.long_at.ensures i;
  msg_type = read_long c.long_at-2.result (long_of (part 12 4 c.args.bytes.now)) (search rules) c.long_at-2.ensures i;
  expiry = read_long c.long_at-3.result (long_of (part 16 4 c.args.bytes.now)) (search rules) c.long_at-3.ensures i;
  feedback = read_long c.long_at-4.result (long_of (part 20 4 c.args.bytes.now)) (search rules) c.long_at-4.ensures i;
  encoding = read_long c.long_at-5.result (long_of (part 24 4 c.args.bytes.now)) (search rules) c.long_at-5.ensures i;
  coded_char_set_id = read_long c.long_at-6.result (long_of (part 28 4 c.args.bytes.now)) (search rules) c.long_at-6.ensures i;
  format = c.array_at.ensures i;
  priority = read_long c.long_at-7.result (long_of (part 40 4 c.args.bytes.now)) (search rules) c.long_at-7.ensures i;
  persistence = read_long c.long_at-8.result (long_of (part 44 4 c.args.bytes.now)) (search rules) c.long_at-8.ensures i;
  msg_id = c.array_at-2.ensures i;
  correl_id = c.array_at-3.ensures i;
  backout_count = read_long c.long_at-9.result (long_of (part 96 4 c.args.bytes.now)) (search rules) c.long_at-9.ensures i;
  reply_to_q = c.array_at-4.ensures i;
  reply_to_q_mgr = c.array_at-5.ensures i;
  user_identifier = c.array_at-6.ensures i;
  accounting_token = c.array_at-7.ensures i;
  appl_identity_data = c.array_at-8.ensures i;
  put_appl_type = read_long c.long_at-10.result (long_of (part 272 4 c.args.bytes.now)) (search rules) c.long_at-10.ensures i;
  put_appl_name = c.array_at-9.ensures i;
  put_date = c.array_at-10.ensures i;
  put_time = c.array_at-11.ensures i;
  appl_origin_data = c.array_at-12.ensures i;
}
