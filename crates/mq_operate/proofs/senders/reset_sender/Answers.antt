use Rattle.mq_operate.proofs.StartLaws.{reset_refused}
use Rattle.mq_operate.proofs.senders.reset_sender.Goals as goal

pub returns-in-Some : goal.returns-in-Some
returns-in-Some g c = reset_refused c.args.number c.args.end.now c.in-Some.reason c.refused.result c.args.parts.now c.in-Some.ensures c.refused.ensures.refusal c.refused.ensures.choice c.refused.ensures.delta
