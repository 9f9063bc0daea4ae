use Rattle.mq_law_pump.proofs.Entries.{entry_ran, taking_there, timeout_there, triggers_want, turn_there}
use Rattle.mq_law_pump.proofs.each_entry_of_a_pump_ran.Goals as goal

pub returns-clause-ran : goal.returns-clause-ran
returns-clause-ran c = entry_ran

pub returns-clause-turns : goal.returns-clause-turns
returns-clause-turns c = turn_there

pub returns-clause-takings : goal.returns-clause-takings
returns-clause-takings c = taking_there

pub returns-clause-timeouts : goal.returns-clause-timeouts
returns-clause-timeouts c = timeout_there

pub returns-clause-triggers_want : goal.returns-clause-triggers_want
returns-clause-triggers_want c = triggers_want
