use Rattle.mq_law_pump.proofs.Besides.{others_stay, triggers_stay}
use Rattle.mq_law_pump.proofs.entries_of_others_leave_what_a_lane_sees.Goals as goal

pub returns-clause-others : goal.returns-clause-others
returns-clause-others c = others_stay

pub returns-clause-triggers : goal.returns-clause-triggers
returns-clause-triggers c = triggers_stay
