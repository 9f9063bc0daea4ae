use Rattle.mq_takes.proofs.LiftLaws.{turn_of}
use Rattle.mq_takes.proofs.turning.receiver_turn.Goals as goal

pub returns : goal.returns
returns g c = turn_of c.args.cable _ _ _ _ _ _ _ _ _ _ c.node.view_is c.turn_at.ensures
