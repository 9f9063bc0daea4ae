use Rattle.mq_law_pump.proofs.Moving.{sends_move, times_out_moves}
use Rattle.mq_law_pump.proofs.a_senders_turn_moves_its_lane.Goals as goal

pub returns-clause-turns : goal.returns-clause-turns
returns-clause-turns c = sends_move

pub returns-clause-timeouts : goal.returns-clause-timeouts
returns-clause-timeouts c = times_out_moves
