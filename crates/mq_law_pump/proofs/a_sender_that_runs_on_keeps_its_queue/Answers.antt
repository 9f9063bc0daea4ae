use Rattle.mq_law_pump.proofs.Leaving.{none_leaves, parts_away, senders_leave_own, stays_open, timeouts_leave_own}
use Rattle.mq_law_pump.proofs.a_sender_that_runs_on_keeps_its_queue.Goals as goal

pub returns-clause-open : goal.returns-clause-open
returns-clause-open c = stays_open

pub returns-clause-away : goal.returns-clause-away
returns-clause-away c = parts_away

pub returns-clause-others : goal.returns-clause-others
returns-clause-others c = none_leaves

pub returns-clause-turns : goal.returns-clause-turns
returns-clause-turns c = senders_leave_own

pub returns-clause-timeouts : goal.returns-clause-timeouts
returns-clause-timeouts c = timeouts_leave_own
