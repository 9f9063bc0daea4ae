use Rattle.mq_law_channel.proofs.Opened.{belongs_again, begins_again}
use Rattle.mq_law_channel.proofs.a_channel_can_begin_again.Goals as goal

pub returns : goal.returns
returns c = record { belong = belongs_again; facts = begins_again }
