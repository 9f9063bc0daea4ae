use Rattle.mq_events.proofs.CallLaws.{back_ends}
use Rattle.mq_events.proofs.calling.mqback.Goals as goal

pub returns : goal.returns
returns g c =
    back_ends c.args.hc c.args.manager.now c.mqback-done.new.self c.told-choice.new.manager c.mqback-done.result _
    c.mqback-done.ensures.meets c.told-choice.ensures.choice c.ended-reply.ensures c.told-choice.ensures.delta c.told-choice.ensures.after
