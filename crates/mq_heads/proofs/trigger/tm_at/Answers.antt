use Rattle.std.proofs.Common.{rules}
use Rattle.mq_message.specs.Layout.{long_of, part}
use Rattle.mq_message.proofs.LayoutLaws.{read_long}
use Rattle.mq_heads.specs.Headers.{tm_in}
use Rattle.mq_heads.proofs.trigger.tm_at.Goals as goal

pub returns : goal.returns
unfolding tm_in
returns c = λ i. record {
  q_name = c.array_at.ensures i;
  process_name = c.array_at-2.ensures i;
  trigger_data = c.array_at-3.ensures i;
  appl_type = read_long c.long_at.result (long_of (part 168 4 c.args.bytes.now)) (search rules) c.long_at.ensures i;
  appl_id = c.array_at-4.ensures i;
  env_data = c.array_at-5.ensures i;
  user_data = c.array_at-6.ensures i;
}
