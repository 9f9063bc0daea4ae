use Rattle.std.proofs.Common.{refl}
use Rattle.std.specs.Prelude.{None}
use Rattle.mq_operate.proofs.SenderLaws.{unnoted}
use Rattle.mq_operate.proofs.StartLaws.{stopped_so}
use Rattle.mq_operate.proofs.senders.stop_sender.Goals as goal

pub returns-in-Err : goal.returns-in-Err
returns-in-Err g c = unnoted c.args.parts.now c.released_in.new.parts c.in-Err.ensures.told c.released_in.ensures.same

pub returns-in-Ok : goal.returns-in-Ok
returns-in-Ok g c =
    stopped_so c.args.end.now c.stopped-after.result (record { told = c.in-Ok.told; refusal = None }) c.args.parts.now c.released_in.new.parts c.left_in.new.parts c.keep_end.new.parts c.stopped-after.ensures refl c.in-Ok.ensures.told c.released_in.ensures.same c.left_in.ensures.behind c.left_in.ensures.same c.keep_end.ensures
