use Rattle.mq_law_pump.proofs.Defining.{parts_same, receivers_define_none, senders_define_none, timeouts_define_none, triggers_define_none}
use Rattle.mq_law_pump.proofs.a_pump_defines_nothing.Goals as goal

pub returns-clause-same : goal.returns-clause-same
returns-clause-same c = parts_same

pub returns-clause-senders : goal.returns-clause-senders
returns-clause-senders c = senders_define_none

pub returns-clause-timeouts : goal.returns-clause-timeouts
returns-clause-timeouts c = timeouts_define_none

pub returns-clause-receivers : goal.returns-clause-receivers
returns-clause-receivers c = receivers_define_none

pub returns-clause-triggers : goal.returns-clause-triggers
returns-clause-triggers c = triggers_define_none
