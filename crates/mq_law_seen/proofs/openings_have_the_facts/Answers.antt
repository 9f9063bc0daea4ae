use Rattle.mq_law_seen.proofs.Openings as openings
use Rattle.mq_law_seen.proofs.Images as images
use Rattle.mq_law_seen.proofs.openings_have_the_facts.Goals as goal

pub returns : goal.returns
returns c = record {
  managers = openings.openings_have_the_facts;
  images = images.image_opens;
}
