use Rattle.mq_law_unshared.proofs.Deeds as deeds
use Rattle.mq_law_unshared.proofs.Ends as ends
use Rattle.mq_law_unshared.proofs.ordinary_deeds_leave_seized_queues.Goals as goal

pub returns : goal.returns
returns c = record { ordinary = deeds.ordinary_leaves; behind = ends.behind }
