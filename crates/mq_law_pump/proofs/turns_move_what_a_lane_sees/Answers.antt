use Rattle.mq_law_pump.proofs.Seeing.{own_moves}
use Rattle.mq_law_pump.proofs.turns_move_what_a_lane_sees.Goals as goal

pub returns : goal.returns
returns c = own_moves
