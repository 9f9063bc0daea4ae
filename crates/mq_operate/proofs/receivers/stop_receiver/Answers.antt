use Rattle.std.proofs.Common.{refl}
use Rattle.std.specs.Prelude.{None}
use Rattle.mq_operate.proofs.SeatLaws.{stopped_so}
use Rattle.mq_operate.proofs.receivers.stop_receiver.Goals as goal

pub returns-in-Ok : goal.returns-in-Ok
returns-in-Ok g c = λ e k.
    stopped_so e c.args.seat.now c.stopped-machine.result (record { told = c.in-Ok.told; refusal = None }) c.args.parts.now c.closed_in.new.parts c.keep_receiver.new.parts k c.stopped-machine.ensures refl c.in-Ok.ensures.told c.closed_in.ensures.same c.keep_receiver.ensures
