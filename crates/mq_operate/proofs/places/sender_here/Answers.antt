use Rattle.mq_turn_parts.specs.from_events.States.{node_in}
use Rattle.mq_operate.proofs.PlaceLaws.{sender_here}
use Rattle.mq_operate.proofs.places.sender_here.Goals as goal

pub returns-in-Some : goal.returns-in-Some
returns-in-Some g c = sender_here c.args.channel.now c.in-Some.end (node_in c.args.parts.now) c.requires.defined c.in-Some.ensures
