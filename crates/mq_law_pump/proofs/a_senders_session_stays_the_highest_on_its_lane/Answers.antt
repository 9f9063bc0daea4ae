use Rattle.mq_law_pump.proofs.Below.{sends_below, takes_below, timed_below}
use Rattle.mq_law_pump.proofs.a_senders_session_stays_the_highest_on_its_lane.Goals as goal

pub returns-clause-sends : goal.returns-clause-sends
returns-clause-sends c = sends_below

pub returns-clause-timeouts : goal.returns-clause-timeouts
returns-clause-timeouts c = timed_below

pub returns-clause-takes : goal.returns-clause-takes
returns-clause-takes c = takes_below
