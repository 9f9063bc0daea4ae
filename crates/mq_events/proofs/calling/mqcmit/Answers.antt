use Rattle.mq_events.proofs.CallLaws.{commit_ends}
use Rattle.mq_events.proofs.calling.mqcmit.Goals as goal

pub returns : goal.returns
returns g c =
    commit_ends c.args.hc c.args.manager.now c.mqcmit-done.new.self c.told-choice.new.manager c.mqcmit-done.result _
    c.mqcmit-done.ensures.meets c.told-choice.ensures.choice c.ended-reply.ensures c.told-choice.ensures.delta c.told-choice.ensures.after
