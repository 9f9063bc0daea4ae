use Rattle.mq_net_rows.proofs.SeatLaws.{ok_seat}
use Rattle.mq_net_rows.proofs.roll.seat_at.Goals as goal

pub returns-clause-seated : goal.returns-clause-seated
returns-clause-seated c = ok_seat c.put_slot.result c.args.at c.args.lane c.args.slot c.args.queues.now c.at_mut.result.now c.put_slot.new.lanes c.at_mut.ensures.value c.put_slot.ensures.placed
