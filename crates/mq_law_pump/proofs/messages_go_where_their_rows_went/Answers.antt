use Rattle.mq_law_pump.proofs.Offering.{laid_away, receivers_keep_away, senders_push_away, takes_away}
use Rattle.mq_law_pump.proofs.messages_go_where_their_rows_went.Goals as goal

pub returns-clause-sends : goal.returns-clause-sends
returns-clause-sends c = senders_push_away

pub returns-clause-lays : goal.returns-clause-lays
returns-clause-lays c = laid_away

pub returns-clause-takes : goal.returns-clause-takes
returns-clause-takes c = takes_away

pub returns-clause-keeps : goal.returns-clause-keeps
returns-clause-keeps c = receivers_keep_away
