use Rattle.std.proofs.Common.{refl}
use Rattle.std.specs.Prelude.{None}
use Rattle.mq_operate.proofs.SeatLaws.{numbered_so}
use Rattle.mq_operate.proofs.receivers.set_last.Goals as goal

pub returns-in-Ok : goal.returns-in-Ok
returns-in-Ok g c = λ e k.
    numbered_so e c.args.seat.now c.numbered-machine.result c.args.last (record { told = c.in-Ok.told; refusal = None }) c.args.parts.now c.hardened_in.new.parts c.keep_receiver.new.parts k c.numbered-machine.ensures refl c.in-Ok.ensures.told c.hardened_in.ensures.same c.keep_receiver.ensures
