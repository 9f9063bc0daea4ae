use Rattle.std.proofs.Common.{List, ℕ, ◌++◌, take, ap, ◌∙◌, arith}
use Rattle.mq_message.proofs.LayoutLaws.{one_byte}
use Rattle.mq_message.proofs.fields.put_u8.Goals as goal

pub returns : goal.returns
returns c = c.put_array.ensures ∙ ap (λ (x : List ℕ). take c.args.place c.args.bytes.now ++ x) (one_byte c.args.number (let h = c.ranges.number in omega arith))
