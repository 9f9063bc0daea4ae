use Rattle.mq_operate.proofs.SenderLaws.{unnoted}
use Rattle.mq_operate.proofs.StartLaws.{started_so}
use Rattle.mq_operate.proofs.senders.start_seized.Goals as goal

pub returns-in-Err : goal.returns-in-Err
returns-in-Err g c = unnoted c.args.parts.now c.sought_in.new.parts c.in-Err.ensures.sought c.sought_in.ensures.same

pub returns-in-Ok : goal.returns-in-Ok
returns-in-Ok g c =
    started_so c.args.end.now c.started-after.result c.kept_of_end-kept.result c.args.limits c.in-Ok.worked c.args.parts.now c.sought_in.new.parts c.keep_if.new.parts c.kept_of_end-kept.ensures c.requires.limits c.started-after.ensures c.in-Ok.ensures.sought c.sought_in.ensures.same c.keep_if.ensures
