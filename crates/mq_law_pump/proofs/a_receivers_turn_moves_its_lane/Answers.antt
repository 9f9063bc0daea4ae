use Rattle.mq_law_pump.proofs.Moving.{receives_move}
use Rattle.mq_law_pump.proofs.a_receivers_turn_moves_its_lane.Goals as goal

pub returns : goal.returns
returns c = receives_move
