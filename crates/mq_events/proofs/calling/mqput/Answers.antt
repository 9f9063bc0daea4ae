use Rattle.mq_events.proofs.CallLaws.{put_ends}
use Rattle.mq_events.proofs.calling.mqput.Goals as goal

pub returns : goal.returns
returns g c =
    put_ends c.args.hc c.args.ho c.args.md.now c.args.body.now c.args.sync c.args.manager.now c.mqput-ended.new.self c.told-choice.new.manager c.mqput-ended.result _
    c.mqput-ended.ensures.meets c.told-choice.ensures.choice c.sent-reply.ensures c.told-choice.ensures.delta c.told-choice.ensures.after
