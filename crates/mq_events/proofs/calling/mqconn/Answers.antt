use Rattle.mq_events.proofs.CallLaws.{conn_ends}
use Rattle.mq_events.proofs.calling.mqconn.Goals as goal

pub returns : goal.returns
returns g c =
    conn_ends c.args.qmgr.now c.args.appl.now c.args.manager.now c.mqconn-ended.new.self c.told-choice.new.manager c.mqconn-ended.result _
    c.mqconn-ended.ensures.meets c.told-choice.ensures.choice c.connected-reply.ensures c.told-choice.ensures.delta c.told-choice.ensures.after
