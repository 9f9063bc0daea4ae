use Rattle.mq_law_pump.proofs.Stillness.{changes_none, items_lie, quiet_lane}
use Rattle.mq_law_pump.proofs.still_ends_leave_a_lane_quiet.Goals as goal

pub returns-clause-still : goal.returns-clause-still
returns-clause-still c = changes_none

pub returns-clause-items : goal.returns-clause-items
returns-clause-items c = items_lie

pub returns-clause-quiet : goal.returns-clause-quiet
returns-clause-quiet c = quiet_lane
