use Rattle.mq_law_pump.proofs.Aparting.{open_alone, other_sender_none, other_timeout_none, receivers_end, senders_end, timeouts_end, triggers_end, triggers_silent}
use Rattle.mq_law_pump.proofs.ends_of_other_cables_stay.Goals as goal

pub returns-clause-senders : goal.returns-clause-senders
returns-clause-senders c = senders_end

pub returns-clause-timeouts : goal.returns-clause-timeouts
returns-clause-timeouts c = timeouts_end

pub returns-clause-receivers : goal.returns-clause-receivers
returns-clause-receivers c = receivers_end

pub returns-clause-triggers : goal.returns-clause-triggers
returns-clause-triggers c = triggers_end

pub returns-clause-silent : goal.returns-clause-silent
returns-clause-silent c = triggers_silent

pub returns-clause-alone : goal.returns-clause-alone
returns-clause-alone c = open_alone

pub returns-clause-others : goal.returns-clause-others
returns-clause-others c = other_sender_none

pub returns-clause-timed : goal.returns-clause-timed
returns-clause-timed c = other_timeout_none
