use Rattle.mq_law_pump.proofs.Popping.{receivers_pop, receivers_want, senders_pop, senders_want, timeouts_want}
use Rattle.mq_law_pump.proofs.ends_pop_what_they_see.Goals as goal

pub returns-clause-senders : goal.returns-clause-senders
returns-clause-senders c = senders_pop

pub returns-clause-receivers : goal.returns-clause-receivers
returns-clause-receivers c = receivers_pop

pub returns-clause-senders_want : goal.returns-clause-senders_want
returns-clause-senders_want c = senders_want

pub returns-clause-timeouts_want : goal.returns-clause-timeouts_want
returns-clause-timeouts_want c = timeouts_want

pub returns-clause-receivers_want : goal.returns-clause-receivers_want
returns-clause-receivers_want c = receivers_want
