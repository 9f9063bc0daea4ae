use Rattle.mq_events.proofs.CallLaws.{put1_ends}
use Rattle.mq_events.proofs.calling.mqput1.Goals as goal

pub returns : goal.returns
returns g c =
    put1_ends c.args.hc c.args.name.now c.args.qmgr.now c.args.md.now c.args.body.now c.args.sync c.args.manager.now c.mqput1-ended.new.self c.told-choice.new.manager c.mqput1-ended.result _
    c.mqput1-ended.ensures.meets c.told-choice.ensures.choice c.sent-reply.ensures c.told-choice.ensures.delta c.told-choice.ensures.after
