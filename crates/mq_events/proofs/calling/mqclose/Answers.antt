use Rattle.mq_events.proofs.CallLaws.{close_ends}
use Rattle.mq_events.proofs.calling.mqclose.Goals as goal

pub returns : goal.returns
returns g c =
    close_ends c.args.hc c.args.ho c.args.manager.now c.mqclose-done.new.self c.told-choice.new.manager c.mqclose-done.result _
    c.mqclose-done.ensures.meets c.told-choice.ensures.choice c.ended-reply.ensures c.told-choice.ensures.delta c.told-choice.ensures.after
