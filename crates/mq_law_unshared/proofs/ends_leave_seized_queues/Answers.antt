use Rattle.mq_law_unshared.proofs.Ends as ends
use Rattle.mq_law_unshared.proofs.ends_leave_seized_queues.Goals as goal

pub returns : goal.returns
returns c = record { senders = ends.sender_leaves; receivers = ends.receiver_leaves; timeouts = ends.timeout_leaves; operators = ends.operates }
