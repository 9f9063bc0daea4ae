use Rattle.mq_law_story.proofs.Beginning as beginning
use Rattle.mq_law_story.proofs.a_network_begins_with_the_facts.Goals as goal

pub returns : goal.returns
returns c = record {
  openings = beginning.managers_open;
  facts = beginning.images_have_the_facts;
}
