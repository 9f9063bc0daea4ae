use Rattle.std.proofs.Common.{sym}
use Rattle.mq_turn_parts.specs.from_events.States.{node_in}
use Rattle.mq_operate.proofs.PlaceLaws.{no_receiver_here}
use Rattle.mq_operate.proofs.ReceiverLaws.{receiver_here}
use Rattle.mq_operate.proofs.places.receiver_here.Goals as goal

pub returns-in-None : goal.returns-in-None
returns-in-None g c = no_receiver_here c.args.channel.now (node_in c.args.parts.now) c.requires.defined (sym c.in-None.ensures)

pub returns-in-Some-seat_here : goal.returns-in-Some-seat_here
returns-in-Some-seat_here g c = receiver_here c.args.channel.now (node_in c.args.parts.now) c.in-Some.at c.in-Some-seat_here.seat c.requires.defined (sym c.in-Some.ensures) c.in-Some-seat_here.ensures
