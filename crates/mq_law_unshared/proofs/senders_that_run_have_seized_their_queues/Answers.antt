use Rattle.mq_law_unshared.proofs.Alone as alone
use Rattle.mq_law_unshared.proofs.Events as happens
use Rattle.mq_law_unshared.proofs.senders_that_run_have_seized_their_queues.Goals as goal

pub returns : goal.returns
returns c = record { begins = happens.begins; alone = alone.seized_alone; events = happens.events }
