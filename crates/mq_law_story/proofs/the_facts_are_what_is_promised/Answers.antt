use Rattle.mq_law_story.proofs.Promising as promising
use Rattle.mq_law_story.proofs.the_facts_are_what_is_promised.Goals as goal

pub returns : goal.returns
returns c = record {
  rows = promising.rows_promised;
  once = promising.once_promised;
  got_once = promising.got_promised;
}
