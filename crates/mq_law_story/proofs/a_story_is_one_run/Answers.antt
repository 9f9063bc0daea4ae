use Rattle.mq_law_story.proofs.Weaving as weaving
use Rattle.mq_law_story.proofs.a_story_is_one_run.Goals as goal

pub returns : goal.returns
returns c = record {
  others = weaving.other_manager;
  manager = weaving.this_manager;
  ledger = weaving.ledger_step;
  tells = weaving.story_tells;
  popped = weaving.popped_in_prefix;
}
