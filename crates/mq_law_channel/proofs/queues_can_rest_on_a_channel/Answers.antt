use Rattle.mq_law_channel.proofs.Following as by
use Rattle.mq_law_channel.proofs.queues_can_rest_on_a_channel.Goals as goal

pub returns : goal.returns
returns c = record { placed = by.placed; awaited = by.awaited; said = by.said }
