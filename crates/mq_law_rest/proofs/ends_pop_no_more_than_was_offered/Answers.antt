use Rattle.mq_law_rest.proofs.Within.{within}
use Rattle.mq_law_rest.proofs.ends_pop_no_more_than_was_offered.Goals as goal

pub returns : goal.returns
returns c = within
