use Rattle.mq_law_queued.proofs.Events.{begins, events}
use Rattle.mq_law_queued.proofs.batches_are_of_their_senders_queues.Goals as goal

pub returns-clause-begins : goal.returns-clause-begins
returns-clause-begins c = begins

pub returns-clause-events : goal.returns-clause-events
returns-clause-events c = events
