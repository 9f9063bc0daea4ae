use Rattle.mq_operate.proofs.SenderLaws.{resolve_none}
use Rattle.mq_operate.proofs.senders.resolve_sender.Goals as goal

pub returns-in-None : goal.returns-in-None
returns-in-None g c = resolve_none c.args.settle c.args.end.now c.refused.result c.args.parts.now c.in-None.ensures c.refused.ensures.refusal c.refused.ensures.choice c.refused.ensures.delta
