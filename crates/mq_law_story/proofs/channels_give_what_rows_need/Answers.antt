use Rattle.mq_law_story.proofs.Tying as tying
use Rattle.mq_law_story.proofs.channels_give_what_rows_need.Goals as goal

pub returns : goal.returns
returns c = tying.commit_tied
