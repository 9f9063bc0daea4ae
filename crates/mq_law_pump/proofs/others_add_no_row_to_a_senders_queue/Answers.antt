use Rattle.mq_law_pump.proofs.Landing.{receivers_add_none, triggers_add_none}
use Rattle.mq_law_pump.proofs.OtherDeeds.{senders_add_none, timeouts_add_none}
use Rattle.mq_law_pump.proofs.Openings.{lane_stays, parts_open}
use Rattle.mq_law_pump.proofs.Others.{parts_no_more}
use Rattle.mq_law_pump.proofs.others_add_no_row_to_a_senders_queue.Goals as goal

pub returns-clause-parts : goal.returns-clause-parts
returns-clause-parts c = parts_no_more

pub returns-clause-senders : goal.returns-clause-senders
returns-clause-senders c = senders_add_none

pub returns-clause-timeouts : goal.returns-clause-timeouts
returns-clause-timeouts c = timeouts_add_none

pub returns-clause-receivers : goal.returns-clause-receivers
returns-clause-receivers c = receivers_add_none

pub returns-clause-triggers : goal.returns-clause-triggers
returns-clause-triggers c = triggers_add_none

pub returns-clause-open : goal.returns-clause-open
returns-clause-open c = parts_open

pub returns-clause-lanes : goal.returns-clause-lanes
returns-clause-lanes c = lane_stays
