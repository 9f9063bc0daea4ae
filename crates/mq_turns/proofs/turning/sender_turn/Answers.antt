use Rattle.mq_turns.proofs.NodeLaws.{ended_at}
use Rattle.mq_turns.proofs.turning.sender_turn.Goals as goal

pub returns : goal.returns
returns g c = ended_at c.args.cable _ _ _ _ _ _ _ c.node.inside.parts _ c.turn_aside.result c.node.view_is c.turn_aside.ensures.turn
