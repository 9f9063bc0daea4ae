use Rattle.std.proofs.Common.{sym, ◌∙◌}
use Rattle.mq_receive.proofs.NeedLaws.{lasting_size, none_size, short_body}
use Rattle.mq_receive.proofs.receiving.add_need.Goals as goal

pub put_bytes-requires : goal.put_bytes-requires
put_bytes-requires c = short_body c.args.arrival.now c.requires (sym c.lasts.ensures ∙ c.if-lasts.true)

pub returns-then-lasts : goal.returns-then-lasts
returns-then-lasts c = c.put_bytes.ensures ∙ lasting_size c.args.arrival.now (sym c.lasts.ensures ∙ c.if-lasts.true)

pub returns : goal.returns
returns c = none_size c.args.arrival.now (sym c.lasts.ensures ∙ c.if-lasts.false)
