use Rattle.mq_law_seized.proofs.Changing as changing
use Rattle.mq_law_seized.proofs.plain_changes_leave_seized_queues.Goals as goal

pub returns : goal.returns
returns c = changing.change_leaves
