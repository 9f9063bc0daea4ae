use Rattle.mq_operate.proofs.SeatLaws.{reset_refused}
use Rattle.mq_operate.proofs.receivers.reset_receiver.Goals as goal

pub returns-in-Some : goal.returns-in-Some
returns-in-Some g c = λ e k.
    reset_refused c.args.number e c.args.seat.now c.args.limits.now c.in-Some.reason c.refused.result c.args.parts.now k c.requires.limits c.in-Some.ensures c.refused.ensures.refusal c.refused.ensures.choice c.refused.ensures.delta
