use Rattle.mq_events.proofs.CallLaws.{disc_ends}
use Rattle.mq_events.proofs.calling.mqdisc.Goals as goal

pub returns : goal.returns
returns g c =
    disc_ends c.args.hc c.args.manager.now c.mqdisc-done.new.self c.told-choice.new.manager c.mqdisc-done.result _
    c.mqdisc-done.ensures.meets c.told-choice.ensures.choice c.ended-reply.ensures c.told-choice.ensures.delta c.told-choice.ensures.after
