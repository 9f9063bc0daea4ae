use Rattle.mq_events.proofs.CallLaws.{open_ends}
use Rattle.mq_events.proofs.calling.mqopen.Goals as goal

pub returns : goal.returns
returns g c =
    open_ends c.args.hc c.args.name.now c.args.qmgr.now c.args.how.now c.args.manager.now c.mqopen-ended.new.self c.told-choice.new.manager c.mqopen-ended.result _
    c.mqopen-ended.ensures.meets c.told-choice.ensures.choice c.opened-reply.ensures c.told-choice.ensures.delta c.told-choice.ensures.after
