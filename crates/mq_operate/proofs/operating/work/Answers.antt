use Rattle.std.proofs.Common.{sym, ◌∙◌}
use Rattle.mq_operate.proofs.SenderLaws.{down_refused}
use Rattle.mq_operate.proofs.operating.work.Goals as goal

pub returns : goal.returns
returns g c = down_refused c.args.op.now c.refused.result c.args.parts.now (sym c.is_up.ensures ∙ c.if-is_up.false) c.refused.ensures.refusal c.refused.ensures.choice c.refused.ensures.delta
