use Rattle.mq_operate.proofs.SenderLaws.{resolve_absent}
use Rattle.mq_operate.proofs.operating.resolve.Goals as goal

pub returns-in-None : goal.returns-in-None
returns-in-None g c = resolve_absent c.args.channel.now c.args.settle c.refused.result c.args.parts.now c.in-None.ensures c.refused.ensures.refusal c.refused.ensures.choice c.refused.ensures.delta
