use Rattle.mq_law_pump.proofs.Histories.{due, earlier, up_before}
use Rattle.mq_law_pump.proofs.Rounds.{pump_tasks}
use Rattle.mq_law_pump.proofs.a_pump_brings_no_manager_up.Goals as goal

pub returns-clause-rounds : goal.returns-clause-rounds
returns-clause-rounds c = pump_tasks

pub returns-clause-up : goal.returns-clause-up
returns-clause-up c = up_before

pub returns-clause-earlier : goal.returns-clause-earlier
returns-clause-earlier c = earlier

pub returns-clause-due : goal.returns-clause-due
returns-clause-due c = due
