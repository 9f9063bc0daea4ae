use Rattle.mq_law_seized.proofs.Commanding as commanding
use Rattle.mq_law_seized.proofs.commands_leave_seized_queues.Goals as goal

pub returns : goal.returns
returns c = commanding.obeys
