use Rattle.mq_law_channel.proofs.Opened.{begins_facts}
use Rattle.mq_law_channel.proofs.a_channel_begins_with_the_facts.Goals as goal

pub returns : goal.returns
returns c = begins_facts
