use Rattle.std.proofs.Common.{subst}
use Rattle.std.specs.Prelude.{IfSome}
use Rattle.mq_spec_node.specs.Words.{Own, ReceiverEnd}
use Rattle.mq_operate.specs.declared.places.Seat.{Seat}
use Rattle.mq_operate.specs.Places.{IsSeatAt}
use Rattle.mq_operate.proofs.places.seat_own.Goals as goal

pub returns : goal.returns
returns c = subst (λ (o : Own). IfSome c.seat_at.result (λ (seat : Seat). (e : ReceiverEnd) × IsSeatAt c.args.at seat e o.ends)) c.own.view_is c.seat_at.ensures
