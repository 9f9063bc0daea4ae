use Rattle.std.proofs.Common.{subst}
use Rattle.std.specs.Prelude.{IfSome}
use Rattle.mq_spec_node.specs.Words.{ReceiverEnd}
use Rattle.mq_turn_parts.specs.from_events.States.{NodeState}
use Rattle.mq_operate.specs.declared.places.Seat.{Seat}
use Rattle.mq_operate.specs.Places.{IsSeatAt}
use Rattle.mq_operate.proofs.places.seat_here.Goals as goal

pub returns : goal.returns
returns g c = subst (λ (s : NodeState). IfSome c.seat_own.result (λ (seat : Seat). (e : ReceiverEnd) × IsSeatAt c.args.at seat e s.own.ends)) c.parts.view_is c.seat_own.ensures
