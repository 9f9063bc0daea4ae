use Rattle.mq_law_rows.proofs.Closing as closing
use Rattle.mq_law_rows.proofs.the_facts_say_that_rows_stand_as_posted.Goals as goal

pub returns : goal.returns
returns c = record {
  rows = closing.rows_stand;
  one = closing.one_queue;
  once = closing.once_there;
}
